-- Constants in the places of variables, and variables in theirs again.
use Rattle.std.proofs.Common.{◌≡◌, ◌≢◌, ℕ, suc, ◌⊎◌, inl, inr, true, bytes_eq, cond, List, [], ◌∷◌, ◌++◌, map, Some}
use Rattle.std.proofs.Common.{option_map, option_and_then, unwrap_or, All, Contains, refl, sym, ◌∙◌, ap, Option, None}
use Rattle.std.proofs.Common.{subst}
use Rattle.std.specs.List.{slice_get}
use Rattle.std.proofs.lemmas.List.Elements.{All-nil, All-cons, All-head, All-tail, All-weaker}
use Rattle.std.proofs.lemmas.Slice.Eq.{bytes_eq-Decides}
use Rattle.larch_term.proofs.BaseBools.{true_or_false, both_true, and_both}
use Rattle.larch_term.proofs.BaseMembers.{contains_here, contains_later, contains_right, contains_cases, contains_none}
use Rattle.larch_term.specs.Operator.{PlainOperator}
use Rattle.larch_term.specs.Tree.{Tree, Forest, var, app, none, more}
use Rattle.larch_term.specs.Sorts.{sort_of, WellSorted, IsOver, AllOver, IsKnown, sorts_of, AllWellSorted}
use Rattle.larch_term.specs.Variable.{occurrences}
use Rattle.larch_term.specs.Statement.{IsStatementOver, IsWellSortedTheory}
use Rattle.larch_term.specs.Substitution.{is_entry_of, image, instance_of, substituted_all, Fits}
use Rattle.larch_term.specs.declared.substitution.Entry.{Entry}
use Rattle.larch_term.specs.declared.variable.Variable.{Variable}
use Rattle.larch_term.specs.declared.statement.Statement.TheVariants.{Equation}
use Rattle.larch_term.specs.declared.statement.Theory.{Theory}
use Rattle.larch_term_law.proofs.Substitutions.{substituted_sort, substituted_well_sorted, substituted_over}
use Rattle.larch_term_law.proofs.Substitutions.{substituted_nil}
use Rattle.larch_term_law.proofs.Agreement.{closed_by_images}
use Rattle.larch_calculus.specs.Formula.{constant}
use Rattle.larch_calculus.specs.Freed.{free_constants, freed_all, constants_for, place_of}
use Rattle.larch_calculus.specs.Theories.{IsTermOf, IsNewName, AreNew, AreConstants, extend}
use Rattle.larch_calculus.specs.Derivable.{Derivable, instance, weaken, fresh}
use Rattle.larch_calculus.proofs.Names.{not_placed, placed_at, has_variable}
use Rattle.larch_calculus.proofs.Sorted.{knows_more, known_cases, over_more, included_more}

-- the variable is there already
abbrev Named : Variable → List ℕ → List ℕ → Type 0
Named v n s = v ≡ record { name = n; sort = s }

is_named : (n s : List ℕ) (e : Entry) → is_entry_of n s e ≡ true → (e.name ≡ n) × (e.sort ≡ s)
is_named n s e h =
    let p = both_true (bytes_eq e.name n) (bytes_eq e.sort s) h in
    ((bytes_eq-Decides e.name n).0 p.0, (bytes_eq-Decides e.sort s).0 p.1)

known_apart : (t : Theory) (cs : List PlainOperator) → AreNew t cs → (f : PlainOperator) → IsKnown t.operators f
    → All (λ c. c.name ≢ f.name) cs
known_apart t cs n f k = All-weaker (λ c. IsNewName t c.name) (λ c. c.name ≢ f.name) (λ c h e. h f k (sym e)) cs n.names

-- what a theory knows is none of the new constants
pub known_not_placed : (t : Theory) (cs : List PlainOperator) → AreNew t cs → (f : PlainOperator)
    → IsKnown t.operators f → place_of cs f.name ≡ None
known_not_placed t cs n f k = not_placed cs f.name (known_apart t cs n f k)

-- what is freed keeps its sort, and is over the operators without the constants
pub freed_sort : (t : Theory) (cs : List PlainOperator) (vs : List Variable) → AreNew t cs
    → map (λ c. c.range) cs ≡ map (λ v. v.sort) vs → (a : Tree)
    → IsOver (t.operators ++ cs) a → sort_of (free_constants cs vs a) ≡ sort_of a
freed_sort t cs vs n e (var m s) o = refl
freed_sort t cs vs n e (app f ts) o =
    elim (known_cases t.operators cs f o.0) [
      | inl k ↦
          ap (λ q. sort_of (unwrap_or (option_map (λ v. var v.name v.sort) q) (app f (freed_all cs vs ts))))
          (ap (option_and_then (slice_get vs)) (known_not_placed t cs n f k))
      | inr h ↦
          let v = has_variable cs vs f n.different e h in
          ap (λ q. sort_of (unwrap_or (option_map (λ v. var v.name v.sort) q) (app f (freed_all cs vs ts)))) v.1 ∙ v.2
    ]

pub freed_sorts : (t : Theory) (cs : List PlainOperator) (vs : List Variable) → AreNew t cs
    → map (λ c. c.range) cs ≡ map (λ v. v.sort) vs → (ls : Forest)
    → AllOver (t.operators ++ cs) ls → sorts_of (freed_all cs vs ls) ≡ sorts_of ls
freed_sorts t cs vs n e none o = refl
freed_sorts t cs vs n e (more a ls) o = λ i. freed_sort t cs vs n e a o.0 i ∷ freed_sorts t cs vs n e ls o.1 i

mutual
  pub freed_well_sorted : (t : Theory) (cs : List PlainOperator) (vs : List Variable) → AreNew t cs
      → map (λ c. c.range) cs ≡ map (λ v. v.sort) vs → (a : Tree)
      → IsOver (t.operators ++ cs) a → WellSorted a
      → WellSorted (free_constants cs vs a) × IsOver t.operators (free_constants cs vs a)
  freed_well_sorted t cs vs n e (var m s) o w = (tt, tt)
  freed_well_sorted t cs vs n e (app f ts) o w =
      let Good : Option Variable → Type 0 = λ q.
      WellSorted (unwrap_or (option_map (λ v. var v.name v.sort) q) (app f (freed_all cs vs ts)))
      × IsOver t.operators (unwrap_or (option_map (λ v. var v.name v.sort) q) (app f (freed_all cs vs ts))) in
      let rest = freed_all_well_sorted t cs vs n e ts o.1 w.1 in
      elim (known_cases t.operators cs f o.0) [
        | inl k ↦ subst Good (sym (ap (option_and_then (slice_get vs)) (known_not_placed t cs n f k)))
            ((freed_sorts t cs vs n e ts o.1 ∙ w.0, rest.0), (k, rest.1))
        | inr h ↦ subst Good (sym (has_variable cs vs f n.different e h).1) (tt, tt)
      ]

  pub freed_all_well_sorted : (t : Theory) (cs : List PlainOperator) (vs : List Variable) → AreNew t cs
      → map (λ c. c.range) cs ≡ map (λ v. v.sort) vs → (ls : Forest)
      → AllOver (t.operators ++ cs) ls → AllWellSorted ls
      → AllWellSorted (freed_all cs vs ls) × AllOver t.operators (freed_all cs vs ls)
  freed_all_well_sorted t cs vs n e none o w = (tt, tt)
  freed_all_well_sorted t cs vs n e (more a ls) o w =
      let p = freed_well_sorted t cs vs n e a o.0 w.0 in
      let q = freed_all_well_sorted t cs vs n e ls o.1 w.1 in
      ((p.0, q.0), (p.1, q.1))

-- what a variable becomes: itself, or the constant that stands where the variable does
pub image_is : (vs : List Variable) (cs : List PlainOperator) (n s : List ℕ)
    → (image (constants_for vs cs) n s ≡ var n s)
    ⊎ ((k : ℕ) × (c : PlainOperator) × (image (constants_for vs cs) n s ≡ constant c) × (slice_get cs k ≡ Some c)
    × (slice_get vs k ≡ Some (record { name = n; sort = s })))
image_is [] cs n s = inl refl
image_is (v ∷ vs) [] n s = inl refl
image_is (v ∷ vs) (c ∷ cs) n s =
    let e : Entry = record { name = v.name; sort = v.sort; term = constant c } in
    elim (true_or_false (is_entry_of n s e)) [
      | inl h ↦
          let p = is_named n s e h in
          inr (
            0,
            c,
            ap (λ b. cond b (constant c) (image (constants_for vs cs) n s)) h,
            refl,
            (λ i. Some (record { name = p.0 i; sort = p.1 i })),
          )
      | inr h ↦
          let skip : image (constants_for (v ∷ vs) (c ∷ cs)) n s ≡ image (constants_for vs cs) n s =
          ap (λ b. cond b (constant c) (image (constants_for vs cs) n s)) h in
          elim (image_is vs cs n s) [
            | inl q ↦ inl (skip ∙ q)
            | inr q ↦ inr (suc q.0, q.1, skip ∙ q.2, q.3, q.4)
          ]
    ]

-- a variable among as many as there are constants becomes one of them
pub image_is_constant : (vs : List Variable) (cs : List PlainOperator) (v : Variable)
    → map (λ c. c.range) cs ≡ map (λ v. v.sort) vs
    → Contains vs v → (c : PlainOperator) × (image (constants_for vs cs) v.name v.sort ≡ constant c)
image_is_constant [] cs v e h = absurd (contains_none v h)
image_is_constant (w ∷ vs) [] v e h = cc
image_is_constant (w ∷ vs) (c ∷ cs) v e h =
    let d : Entry = record { name = w.name; sort = w.sort; term = constant c } in
    elim (true_or_false (is_entry_of v.name v.sort d)) [
      | inl y ↦ (c, ap (λ b. cond b (constant c) (image (constants_for vs cs) v.name v.sort)) y)
      | inr y ↦ elim (contains_cases w v vs h) [
        | inl i ↦
            let one : is_entry_of v.name v.sort d ≡ true =
            and_both (bytes_eq w.name v.name) (bytes_eq w.sort v.sort)
            ((bytes_eq-Decides w.name v.name).1 (ap (λ u. u.name) i))
            ((bytes_eq-Decides w.sort v.sort).1 (ap (λ u. u.sort) i)) in
            (c, ap (λ b. cond b (constant c) (image (constants_for vs cs) v.name v.sort)) one)
        | inr t ↦
            let p : map (λ c. c.range) cs ≡ map (λ v. v.sort) vs = cc in
            let r = image_is_constant vs cs v p t in
            (r.0, ap (λ b. cond b (constant c) (image (constants_for vs cs) v.name v.sort)) y ∙ r.1)
      ]
    ]

-- freeing takes a substitution back where it does so at each variable
mutual
  pub freed_back : (t : Theory) (cs : List PlainOperator) (vs : List Variable) (es : List Entry) → AreNew t cs
      → ((n s : List ℕ) → free_constants cs vs (image es n s) ≡ var n s) → (a : Tree) → IsOver t.operators a
      → free_constants cs vs (instance_of es a) ≡ a
  freed_back t cs vs es n h (var m s) o = h m s
  freed_back t cs vs es n h (app f ts) o =
      ap (λ p. unwrap_or (option_map (λ v. var v.name v.sort) (option_and_then (slice_get vs) p))
      (app f (freed_all cs vs (substituted_all es ts))))
      (known_not_placed t cs n f o.0)
      ∙ ap (app f) (freed_all_back t cs vs es n h ts o.1)

  pub freed_all_back : (t : Theory) (cs : List PlainOperator) (vs : List Variable) (es : List Entry) → AreNew t cs
      → ((n s : List ℕ) → free_constants cs vs (image es n s) ≡ var n s) → (ts : Forest) → AllOver t.operators ts
      → freed_all cs vs (substituted_all es ts) ≡ ts
  freed_all_back t cs vs es n h none o = refl
  freed_all_back t cs vs es n h (more a ts) o =
      λ i. more (freed_back t cs vs es n h a o.0 i) (freed_all_back t cs vs es n h ts o.1 i)

-- what has none of the constants stays
pub freed_itself : (t : Theory) (cs : List PlainOperator) (vs : List Variable) (a : Tree) → AreNew t cs
    → IsOver t.operators a → free_constants cs vs a ≡ a
freed_itself t cs vs a n o =
    ap (free_constants cs vs) (sym (substituted_nil a)) ∙ freed_back t cs vs [] n (λ m s. refl) a o

-- freeing takes back the substitution of constants for variables
pub freed_constants : (t : Theory) (cs : List PlainOperator) (vs : List Variable) (a : Tree) → AreNew t cs
    → IsOver t.operators a
    → free_constants cs vs (instance_of (constants_for vs cs) a) ≡ a
freed_constants t cs vs a n o =
    freed_back t cs vs (constants_for vs cs) n
    (λ m s. elim (image_is vs cs m s) [
      | inl e ↦ ap (free_constants cs vs) e
      | inr r ↦
          ap (free_constants cs vs) r.2
          ∙ ap (λ p. unwrap_or (option_map (λ v. var v.name v.sort) (option_and_then (slice_get vs) p)) (constant r.1))
          (placed_at cs r.0 r.1 n.different r.3)
          ∙ ap (λ p. unwrap_or (option_map (λ v. var v.name v.sort) p) (constant r.1)) r.4
    ]) a o

-- a term whose variables all became constants is closed
pub constants_close : (cs : List PlainOperator) (vs : List Variable) (a : Tree)
    → map (λ c. c.range) cs ≡ map (λ v. v.sort) vs
    → All (Contains vs) (occurrences a) → occurrences (instance_of (constants_for vs cs) a) ≡ []
constants_close cs vs a e h =
    closed_by_images (constants_for vs cs) a
    (All-weaker (Contains vs) (λ v. occurrences (image (constants_for vs cs) v.name v.sort) ≡ [])
    (λ v c. ap occurrences (image_is_constant vs cs v e c).1) (occurrences a) h)

-- the substitution is of terms of the variables' sorts, over operators among which the constants are
pub constants_fit : (vs : List Variable) (cs : List PlainOperator) → AreConstants cs
    → map (λ c. c.range) cs ≡ map (λ v. v.sort) vs
    → Fits (constants_for vs cs)
constants_fit [] cs k e = All-nil (λ e. WellSorted e.term × (sort_of e.term ≡ e.sort))
constants_fit (v ∷ vs) [] k e = All-nil (λ e. WellSorted e.term × (sort_of e.term ≡ e.sort))
constants_fit (v ∷ vs) (c ∷ cs) k e =
    let p : map (λ c. c.range) cs ≡ map (λ v. v.sort) vs = cc in
    All-cons (λ e. WellSorted e.term × (sort_of e.term ≡ e.sort))
    (record { name = v.name; sort = v.sort; term = constant c }) (constants_for vs cs)
    ((sym (All-head (λ f. f.domain ≡ []) c cs k), tt), cc)
    (constants_fit vs cs (All-tail (λ f. f.domain ≡ []) c cs k) p)

pub constants_over : (fs : List PlainOperator) (vs : List Variable) (cs : List PlainOperator)
    → ((c : PlainOperator) → Contains cs c → Contains fs c)
    → All (λ e. IsOver fs e.term) (constants_for vs cs)
constants_over fs [] cs h = All-nil (λ e. IsOver fs e.term)
constants_over fs (v ∷ vs) [] h = All-nil (λ e. IsOver fs e.term)
constants_over fs (v ∷ vs) (c ∷ cs) h =
    All-cons (λ e. IsOver fs e.term) (record { name = v.name; sort = v.sort; term = constant c }) (constants_for vs cs)
    (inl (h c (contains_here c cs)), tt) (constants_over fs vs cs (λ d i. h d (contains_later c d cs i)))

-- a well sorted term of the theory becomes one of its extension, of the same sort, and becomes the theory's again
pub with_constants : (t : Theory) (cs : List PlainOperator) (vs : List Variable) (s : List ℕ) (a : Tree)
    → AreConstants cs
    → map (λ c. c.range) cs ≡ map (λ v. v.sort) vs → IsTermOf t.operators s a
    → IsTermOf (extend t cs []).operators s (instance_of (constants_for vs cs) a)
with_constants t cs vs s a k e w =
    let es = constants_for vs cs in
    let gs = t.operators ++ cs in
    let fit = constants_fit vs cs k e in
    let over = over_more t.operators gs (knows_more t.operators cs) a w.0.1 in (
      (
        substituted_well_sorted es a fit w.0.0,
        substituted_over gs es a (constants_over gs vs cs (contains_right t.operators cs)) over,
      ),
      substituted_sort es a fit ∙ w.1,
    )

pub without_constants : (t : Theory) (cs : List PlainOperator) (vs : List Variable) (s : List ℕ) (a : Tree)
    → AreNew t cs
    → map (λ c. c.range) cs ≡ map (λ v. v.sort) vs → IsTermOf (extend t cs []).operators s a
    → IsTermOf t.operators s (free_constants cs vs a)
without_constants t cs vs s a n e w =
    (freed_well_sorted t cs vs n e a w.0.1 w.0.0, freed_sort t cs vs n e a w.0.1 ∙ w.1)

-- what holds of new constants holds of all values
pub generalised : (t : Theory) (cs : List PlainOperator) (vs : List Variable) (a b : Tree) → AreNew t cs
    → AreConstants cs
    → map (λ c. c.range) cs ≡ map (λ v. v.sort) vs → IsStatementOver t.operators (Equation a b)
    → Derivable (extend t cs [])
    (Equation (instance_of (constants_for vs cs) a) (instance_of (constants_for vs cs) b))
    → Derivable t (Equation a b)
generalised t cs vs a b n k e w d =
    fresh cs vs n k e d (sym (freed_constants t cs vs a n w.0.1)) (sym (freed_constants t cs vs b n w.1.1))

-- and what holds of all values holds of new constants
pub specialised : (t : Theory) (cs : List PlainOperator) (vs : List Variable) (a b : Tree) → IsWellSortedTheory t
    → AreConstants cs
    → map (λ c. c.range) cs ≡ map (λ v. v.sort) vs → Derivable t (Equation a b)
    → Derivable (extend t cs [])
    (Equation (instance_of (constants_for vs cs) a) (instance_of (constants_for vs cs) b))
specialised t cs vs a b g k e d =
    instance (constants_for vs cs) (constants_fit vs cs k e)
    (constants_over (t.operators ++ cs) vs cs (contains_right t.operators cs))
    (weaken g (included_more t cs []) d) refl refl
