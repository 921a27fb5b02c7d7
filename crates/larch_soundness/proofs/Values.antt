-- Values of terms.
use Rattle.std.proofs.Common.{◌≡◌, ◌≤◌, ◌==◌, ℕ, zero, suc, inl, inr, Bool, true, false, cond, not, ◌&&◌, ◌||◌, List}
use Rattle.std.proofs.Common.{[], ◌∷◌, Some, Contains, refl, sym, ◌∙◌, ap, subst, arith}
use Rattle.std.proofs.lemmas.Option.{option_and_then_some}
use Rattle.larch_base.proofs.Members.{contains_here, contains_left, contains_right}
use Rattle.larch_base.proofs.Options.{some_inj}
use Rattle.larch_term.specs.Operator.{PlainOperator}
use Rattle.larch_term.specs.Tree.{Tree, Forest, var, app, none, more}
use Rattle.larch_term.specs.BuiltIn.{bool_sort, built_in}
use Rattle.larch_term.specs.Place.{at, argument, put, put_in}
use Rattle.larch_term.specs.Sorts.{sort_of, sorts_of, WellSorted, AllWellSorted, IsOver, AllOver, IsKnown}
use Rattle.larch_term.specs.Variable.{occurrences, occurrences_in}
use Rattle.larch_term.specs.Substitution.{image, instance_of, substituted_all}
use Rattle.larch_term.specs.declared.substitution.Entry.{Entry}
use Rattle.larch_term.specs.declared.variable.Variable.{Variable}
use Rattle.larch_term.specs.declared.built_in.BuiltIn.{BuiltIn}
use Rattle.larch_term.specs.declared.built_in.BuiltIn.TheVariants.{True, False, Not, And, Or, Implies, Iff, Equal}
use Rattle.larch_term.specs.declared.built_in.BuiltIn.TheVariants.{Unequal, If}
use Rattle.larch_models_meaning.specs.Interpretation.{Interpretation, Assignment, value_of, values_of, bit, is_one}
use Rattle.larch_models_meaning.specs.Interpretation.{first}
use Rattle.larch_models_meaning.specs.Interpretation.{others, meaning, Within, InRange, IsInterpretation}

pub bit_within : (b : Bool) → bit b ≤ 1
bit_within true = omega arith
bit_within false = omega arith

pub is_one_bit : (b : Bool) → is_one (bit b) ≡ b
is_one_bit true = refl
is_one_bit false = refl

pub bit_is_one : (n : ℕ) → n ≤ 1 → bit (is_one n) ≡ n
bit_is_one zero h = refl
bit_is_one (suc zero) h = refl
bit_is_one (suc (suc n)) h = absurd (omega arith)

pub same_numbers : (u v : ℕ) → (u == v) ≡ true → u ≡ v
same_numbers u v e = grind arith

pub numbers_same : (u v : ℕ) → u ≡ v → (u == v) ≡ true
numbers_same u v e = grind arith

chosen_within : (b : Bool) (u v k : ℕ) → u ≤ k → v ≤ k → cond b u v ≤ k
chosen_within true u v k p q = p
chosen_within false u v k p q = q

truth_within : {fs : List PlainOperator} {m : Interpretation} → IsInterpretation fs m → (b : Bool)
    → bit b ≤ m.last bool_sort
truth_within i b = subst (λ k. bit b ≤ k) (sym i.two_truth_values) (bit_within b)

-- built-in operators have values of their ranges
pub meaning_within : {fs : List PlainOperator} {m : Interpretation} → IsInterpretation fs m
    → (b : BuiltIn) (s vs : List ℕ)
    → Within m.last (built_in b s).domain vs → meaning b vs ≤ m.last (built_in b s).range
meaning_within i True s vs w = truth_within i true
meaning_within i False s vs w = truth_within i false
meaning_within i Not s vs w = truth_within i (not (is_one (first vs)))
meaning_within i And s vs w = truth_within i (is_one (first vs) && is_one (first (others vs)))
meaning_within i Or s vs w = truth_within i (is_one (first vs) || is_one (first (others vs)))
meaning_within i Implies s vs w = truth_within i (not (is_one (first vs)) || is_one (first (others vs)))
meaning_within i Iff s vs w = truth_within i (first vs == first (others vs))
meaning_within i Equal s vs w = truth_within i (first vs == first (others vs))
meaning_within i Unequal s vs w = truth_within i (not (first vs == first (others vs)))
meaning_within i If s [] w = absurd w
meaning_within i If s (c ∷ []) w = absurd w.1
meaning_within i If s (c ∷ u ∷ []) w = absurd w.1.1
meaning_within {m = m} i If s (c ∷ u ∷ v ∷ vs) w = chosen_within (is_one c) u v (m.last s) w.1.0 w.1.1.0

-- and so have all known operators
pub known_within : {fs : List PlainOperator} {m : Interpretation} → IsInterpretation fs m → (f : PlainOperator)
    → IsKnown fs f → (vs : List ℕ) → Within m.last f.domain vs → m.table f vs ≤ m.last f.range
known_within i f (inl c) vs w = i.within f c vs w
known_within {m = m} i f (inr (b, (s, e))) vs w =
    subst (λ g. m.table g vs ≤ m.last g.range) (sym e)
    (subst (λ k. k ≤ m.last (built_in b s).range) (sym (i.meanings b s vs))
    (meaning_within i b s vs (subst (λ g. Within m.last g.domain vs) e w)))

-- a term's value is one of its sort
mutual
  pub value_within : {fs : List PlainOperator} {m : Interpretation} → IsInterpretation fs m → (a : Assignment)
      → InRange m.last a → (t : Tree) → WellSorted t → IsOver fs t → value_of m a t ≤ m.last (sort_of t)
  value_within i a r (var n s) w o = r n s
  value_within {m = m} i a r (app f ts) w o =
      known_within i f o.0 (values_of m a ts)
      (subst (λ ss. Within m.last ss (values_of m a ts)) w.0 (values_within i a r ts w.1 o.1))

  values_within : {fs : List PlainOperator} {m : Interpretation} → IsInterpretation fs m → (a : Assignment)
      → InRange m.last a → (ts : Forest) → AllWellSorted ts → AllOver fs ts
      → Within m.last (sorts_of ts) (values_of m a ts)
  values_within i a r none w o = tt
  values_within i a r (more t ts) w o = (value_within i a r t w.0 o.0, values_within i a r ts w.1 o.1)

values_put_in : (m : Interpretation) (a : Assignment) (ts : Forest) (k : ℕ) (p : List ℕ) (v t : Tree)
    → argument ts k ≡ Some t → value_of m a (put t p v) ≡ value_of m a t
    → values_of m a (put_in ts k p v) ≡ values_of m a ts
values_put_in m a none k p v t g e = refl
values_put_in m a (more x xs) zero p v t g e = refl
values_put_in m a (more x xs) (suc zero) p v t g e =
    ap (λ u. u ∷ values_of m a xs)
    (subst (λ y. value_of m a (put y p v) ≡ value_of m a y) (sym (some_inj g)) e)
values_put_in m a (more x xs) (suc (suc k)) p v t g e =
    ap (λ us. value_of m a x ∷ us) (values_put_in m a xs (suc k) p v t g e)

-- a term of the same value in the place of one
pub value_put : (m : Interpretation) (a : Assignment) (t : Tree) (p : List ℕ) (u v : Tree) → at t p ≡ Some u
    → value_of m a u ≡ value_of m a v → value_of m a (put t p v) ≡ value_of m a t
value_put m a t [] u v h e = sym e ∙ sym (ap (value_of m a) (some_inj h))
value_put m a (var n s) (k ∷ p) u v h e = refl
value_put m a (app f ts) (k ∷ p) u v h e =
    option_and_then_some (λ w. at w p) (argument ts k) u h
    (λ w g b. ap (m.table f) (values_put_in m a ts k p v w g (value_put m a w p u v b e)))

-- the assignment that a substitution makes of one
abbrev pub through : Interpretation → Assignment → List Entry → Assignment
through m a es = λ n s. value_of m a (image es n s)

mutual
  -- a substituted term has the value of the term under that assignment
  pub value_substituted : (m : Interpretation) (a : Assignment) (es : List Entry) (t : Tree)
      → value_of m a (instance_of es t) ≡ value_of m (through m a es) t
  value_substituted m a es (var n s) = refl
  value_substituted m a es (app f ts) = ap (m.table f) (values_substituted m a es ts)

  values_substituted : (m : Interpretation) (a : Assignment) (es : List Entry) (ts : Forest)
      → values_of m a (substituted_all es ts) ≡ values_of m (through m a es) ts
  values_substituted m a es none = refl
  values_substituted m a es (more t ts) = λ i. value_substituted m a es t i ∷ values_substituted m a es ts i

-- two assignments give these variables the same values
abbrev pub Alike : Assignment → Assignment → List Variable → Type 0
Alike a b vs = (v : Variable) → Contains vs v → a v.name v.sort ≡ b v.name v.sort

mutual
  -- only the variables that occur matter
  pub value_alike : (m : Interpretation) (a b : Assignment) (t : Tree) → Alike a b (occurrences t)
      → value_of m a t ≡ value_of m b t
  value_alike m a b (var n s) h = h (record { name = n; sort = s }) (contains_here (record { name = n; sort = s }) [])
  value_alike m a b (app f ts) h = ap (m.table f) (values_alike m a b ts h)

  values_alike : (m : Interpretation) (a b : Assignment) (ts : Forest) → Alike a b (occurrences_in ts)
      → values_of m a ts ≡ values_of m b ts
  values_alike m a b none h = refl
  values_alike m a b (more t ts) h =
      λ i. value_alike m a b t (λ v c. h v (contains_left (occurrences t) (occurrences_in ts) v c)) i
      ∷ values_alike m a b ts (λ v c. h v (contains_right (occurrences t) (occurrences_in ts) v c)) i

-- the tables of known operators are the same in two interpretations
abbrev pub SameTables : Interpretation → Interpretation → List PlainOperator → Type 0
SameTables m n fs = (f : PlainOperator) → IsKnown fs f → (vs : List ℕ) → m.table f vs ≡ n.table f vs

mutual
  -- only the tables of the term's operators matter
  pub value_same : (m n : Interpretation) (fs : List PlainOperator) → SameTables m n fs → (a : Assignment) (t : Tree)
      → IsOver fs t → value_of m a t ≡ value_of n a t
  value_same m n fs h a (var x s) o = refl
  value_same m n fs h a (app f ts) o = h f o.0 (values_of m a ts) ∙ ap (n.table f) (values_same m n fs h a ts o.1)

  values_same : (m n : Interpretation) (fs : List PlainOperator) → SameTables m n fs → (a : Assignment) (ts : Forest)
      → AllOver fs ts → values_of m a ts ≡ values_of n a ts
  values_same m n fs h a none o = refl
  values_same m n fs h a (more t ts) o = λ i. value_same m n fs h a t o.0 i ∷ values_same m n fs h a ts o.1 i
