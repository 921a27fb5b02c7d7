-- What is gathered stays sound.
use Rattle.std.proofs.Common.{◌≡◌, ◌≢◌, refl, Bool, true, false, cond, ◌||◌, ◌&&◌, List, [], ◌∷◌, ◌++◌, map, Contains}
use Rattle.std.proofs.Common.{All, sym, subst, ◌∙◌, inl, inr, arith}
use Rattle.std.specs.Prelude.{fold}
use Rattle.std.specs.List.{list_any}
use Rattle.std.proofs.lemmas.List.Elements.{All-nil, All-cons, All-head, All-tail, All-map, All-push, All-weaker}
use Rattle.std.proofs.lemmas.List.Quantifiers.{all_pairs_push}
use Rattle.larch_base.proofs.Members.{contains_cases, contains_here, contains_later, contains_left, contains_map}
use Rattle.larch_base.proofs.Members.{contains_none, contains_right}
use Rattle.larch_term.specs.BuiltIn.{IsBuiltIn}
use Rattle.larch_term.specs.Equality.{same_operator, same_statement}
use Rattle.larch_term.specs.Operator.{PlainOperator}
use Rattle.larch_term.specs.declared.statement.Statement.{Statement}
use Rattle.larch_term.proofs.Decided.{operator_Decides}
use Rattle.larch_renaming.specs.Renaming.{KeepsBuiltIns, renamed_statement}
use Rattle.larch_flat_meaning.specs.Flat.{FlatTrait, renamed_mark, renamed_marked, with_mark, with_renamed}
use Rattle.larch_flat_meaning.specs.Gathered.{Gathered, Marked, nothing, with_asserted, with_discharge, with_marked}
use Rattle.larch_flat_meaning.specs.Gathered.{with_operator, with_operators, with_statement, with_taken}
use Rattle.larch_flat_meaning.specs.Laws.{IsSound, IsStatedOver}
use Rattle.larch_flat_meaning.specs.Replacements.{Replacements, new_operator, renaming}
use Rattle.larch_flat_meaning.proofs.Proper.{renaming_fits}
use Rattle.larch_flat_meaning.proofs.Stated.{Within, stated_more, stated_renamed}

or_false : (a b : Bool) → (a || b) ≡ false → (a ≡ false) × (b ≡ false)
or_false true b e = cc
or_false false b e = (refl, e)

true_is_false : true ≡ false → ⊥
true_is_false e = cc

abbrev Differs : PlainOperator → PlainOperator → Type 0
Differs f h = h ≢ f

differs : (f : PlainOperator) (fs : List PlainOperator) → list_any (same_operator f) fs ≡ false → All (Differs f) fs
differs f [] e = All-nil (Differs f)
differs f (h ∷ fs) e =
    let p = or_false (same_operator f h) (list_any (same_operator f) fs) e in
    All-cons (Differs f) h fs (λ q. true_is_false (sym ((operator_Decides f h).1 (sym q)) ∙ p.0)) (differs f fs p.1)

-- with one more operator, where it isn't there
abbrev grown : Bool → PlainOperator → Gathered → Gathered
grown b f g =
    record { operators = cond b g.operators (g.operators ++ f ∷ []); marked = g.marked; discharge = g.discharge }

sound_grown : (f : PlainOperator) (g : Gathered) → (IsBuiltIn f → ⊥) → IsSound g → (b : Bool)
    → list_any (same_operator f) g.operators ≡ b → IsSound (grown b f g)
sound_grown f g n h true e = record { different = h.different; own = h.own; marked = h.marked; discharge = h.discharge }
sound_grown f g n h false e =
    let more : List PlainOperator = g.operators ++ f ∷ [] in
    let w : Within g.operators more = (λ k c. contains_left g.operators (f ∷ []) k c) in
    let d : All (Differs f) g.operators = differs f g.operators e in
    record {
      different = all_pairs_push (λ k m. k ≢ m) g.operators f h.different (λ k c lt. d k c lt);
      own = All-push (λ k. IsBuiltIn k → ⊥) g.operators f h.own n;
      marked =
          All-weaker (λ m. IsStatedOver g.operators m.statement) (λ m. IsStatedOver more m.statement)
          (λ m s. stated_more g.operators more w m.statement s) g.marked h.marked;
      discharge =
          All-weaker (IsStatedOver g.operators) (IsStatedOver more)
          (λ m s. stated_more g.operators more w m s) g.discharge h.discharge;
    }

-- operators that aren't built in keep what is gathered sound
pub sound_operators : (fs : List PlainOperator) (g : Gathered) → All (λ f. IsBuiltIn f → ⊥) fs → IsSound g
    → IsSound (with_operators fs g)
sound_operators [] g n h = record { different = h.different; own = h.own; marked = h.marked; discharge = h.discharge }
sound_operators (f ∷ fs) g n h =
    sound_operators fs (grown (list_any (same_operator f) g.operators) f g) (All-tail (λ k. IsBuiltIn k → ⊥) f fs n)
    (sound_grown f g (All-head (λ k. IsBuiltIn k → ⊥) f fs n) h (list_any (same_operator f) g.operators) refl)

-- what holds of each marked statement
abbrev pub AllMarked : (Statement → Type 0) → List Marked → Type 0
AllMarked P ms = All (λ m. P m.statement) ms

with_by : (P : Statement → Type 0) (s : Statement) (assumed : Bool) (m : Marked) (ms : List Marked) (b : Bool)
    → P m.statement → AllMarked P ms
    → AllMarked P (with_statement s assumed ms)
    → AllMarked P (cond b (record { statement = m.statement; assumed = m.assumed && assumed } ∷ ms)
    (m ∷ with_statement s assumed ms))
with_by P s assumed m ms true p h k =
    All-cons (λ n. P n.statement) (record { statement = m.statement; assumed = m.assumed && assumed }) ms p h
with_by P s assumed m ms false p h k = All-cons (λ n. P n.statement) m (with_statement s assumed ms) p k

-- what holds of a statement and of those marked holds with it among them
pub with_statement_all : (P : Statement → Type 0) (s : Statement) (assumed : Bool) (ms : List Marked) → P s
    → AllMarked P ms → AllMarked P (with_statement s assumed ms)
with_statement_all P s assumed [] p h =
    All-cons (λ m. P m.statement) (record { statement = s; assumed = assumed }) [] p (All-nil (λ m. P m.statement))
with_statement_all P s assumed (m ∷ ms) p h =
    let Q : Marked → Type 0 = (λ n. P n.statement) in
    with_by P s assumed m ms (same_statement m.statement s) (All-head Q m ms h) (All-tail Q m ms h)
    (with_statement_all P s assumed ms p (All-tail Q m ms h))

pub sound_marked : (assumed : Bool) (s : Statement) (g : Gathered) → IsStatedOver g.operators s → IsSound g
    → IsSound (with_marked assumed s g)
sound_marked assumed s g p h =
    record {
      different = h.different;
      own = h.own;
      marked = with_statement_all (IsStatedOver g.operators) s assumed g.marked p h.marked;
      discharge = h.discharge;
    }

-- asserted statements over the operators keep it sound
pub sound_asserted : (fs : List PlainOperator) (ss : List Statement) (g : Gathered) → g.operators ≡ fs
    → All (IsStatedOver fs) ss → IsSound g → IsSound (with_asserted ss g)
sound_asserted fs [] g e a h = h
sound_asserted fs (s ∷ ss) g e a h =
    sound_asserted fs ss (with_marked false s g) e (All-tail (IsStatedOver fs) s ss a)
    (sound_marked false s g (subst (λ hs. IsStatedOver hs s) (sym e) (All-head (IsStatedOver fs) s ss a)) h)

sound_discharge : (s : Statement) (g : Gathered) → IsStatedOver g.operators s → IsSound g → IsSound (with_discharge s g)
sound_discharge s g p h =
    record {
      different = h.different;
      own = h.own;
      marked = h.marked;
      discharge = All-push (IsStatedOver g.operators) g.discharge s h.discharge p;
    }

taken_by : (m : Marked) (g : Gathered) (b : Bool) → IsStatedOver g.operators m.statement → IsSound g
    → IsSound (cond b (with_discharge m.statement g) (with_marked false m.statement g))
taken_by m g true p h = sound_discharge m.statement g p h
taken_by m g false p h = sound_marked false m.statement g p h

sound_taken : (assumes : Bool) (m : Marked) (g : Gathered) → IsStatedOver g.operators m.statement → IsSound g
    → IsSound (with_taken assumes m g)
sound_taken true m g p h = sound_marked true m.statement g p h
sound_taken false m g p h = taken_by m g m.assumed p h

same_by : (m : Marked) (g : Gathered) (b : Bool)
    → (cond b (with_discharge m.statement g) (with_marked false m.statement g)).operators ≡ g.operators
same_by m g true = refl
same_by m g false = refl

pub taken_operators : (assumes : Bool) (m : Marked) (g : Gathered) → (with_taken assumes m g).operators ≡ g.operators
taken_operators true m g = refl
taken_operators false m g = same_by m g m.assumed

sound_all : (assumes : Bool) (fs : List PlainOperator) (ms : List Marked) (g : Gathered) → g.operators ≡ fs
    → AllMarked (IsStatedOver fs) ms → IsSound g
    → IsSound (fold (λ h m. with_taken assumes m h) g ms)
sound_all assumes fs [] g e a h = h
sound_all assumes fs (m ∷ ms) g e a h =
    let P : Marked → Type 0 = (λ n. IsStatedOver fs n.statement) in
    sound_all assumes fs ms (with_taken assumes m g) (taken_operators assumes m g ∙ e) (All-tail P m ms a)
    (sound_taken assumes m g (subst (λ hs. IsStatedOver hs m.statement) (sym e) (All-head P m ms a)) h)

pub marks_from : (P : Statement → Type 0) (ms ns : List Marked) → AllMarked P ms → AllMarked P ns
    → AllMarked P (fold with_mark ns ms)
marks_from P [] ns a b = b
marks_from P (m ∷ ms) ns a b =
    let Q : Marked → Type 0 = (λ n. P n.statement) in
    marks_from P ms (with_mark ns m) (All-tail Q m ms a)
    (with_statement_all P m.statement m.assumed ns (All-head Q m ms a) b)

or_later : (a b : Bool) → (a || b) ≡ true → a ≡ false → b ≡ true
or_later true b e q = absurd (true_is_false q)
or_later false b e q = e

found_by : (h f : PlainOperator) (fs : List PlainOperator) (b : Bool) → same_operator f h ≡ b
    → (list_any (same_operator f) fs ≡ true → Contains fs f)
    → (b || list_any (same_operator f) fs) ≡ true → Contains (h ∷ fs) f
found_by h f fs true q k e = subst (Contains (h ∷ fs)) (sym ((operator_Decides f h).0 q)) (contains_here h fs)
found_by h f fs false q k e = contains_later h f fs (k e)

-- an operator that is found among others is one of them
pub found : (fs : List PlainOperator) (f : PlainOperator) → list_any (same_operator f) fs ≡ true → Contains fs f
found [] f e = cc
found (h ∷ fs) f e = found_by h f fs (same_operator f h) refl (found fs f) e

-- an operator that is there already, or is added
here_by : (fs : List PlainOperator) (f : PlainOperator) (b : Bool) → list_any (same_operator f) fs ≡ b
    → Contains (cond b fs (fs ++ f ∷ [])) f
here_by fs f true e = found fs f e
here_by fs f false e = contains_right fs (f ∷ []) f (contains_here f [])

stays_by : (fs : List PlainOperator) (f h : PlainOperator) (b : Bool) → Contains fs h
    → Contains (cond b fs (fs ++ f ∷ [])) h
stays_by fs f h true c = c
stays_by fs f h false c = contains_left fs (f ∷ []) h c

pub operators_stay : (fs os : List PlainOperator) → Within os (fold with_operator os fs)
operators_stay [] os h c = c
operators_stay (f ∷ fs) os h c =
    operators_stay fs (with_operator os f) h (stays_by os f h (list_any (same_operator f) os) c)

pub operators_come : (fs os : List PlainOperator) → Within fs (fold with_operator os fs)
operators_come [] os h c = absurd (contains_none h c)
operators_come (f ∷ fs) os h c =
    elim (contains_cases f h fs c) [
      | inl e ↦
          operators_stay fs (with_operator os f) h
          (subst (Contains (with_operator os f)) e (here_by os f (list_any (same_operator f) os) refl))
      | inr d ↦ operators_come fs (with_operator os f) h d
    ]

-- a flat trait that is sound, by names that keep built-in operators and make no more of them
pub sound_renamed : (assumes : Bool) (t : FlatTrait) (by : Replacements) (g : Gathered) → KeepsBuiltIns (renaming by)
    → All (λ f. IsBuiltIn (new_operator by f) → ⊥) t.operators → AllMarked (IsStatedOver t.operators) t.marked
    → IsSound g → IsSound (with_renamed assumes t by g)
sound_renamed assumes t by g keeps own a h =
    let news : List PlainOperator = map (new_operator by) t.operators in
    let fs : List PlainOperator = fold with_operator g.operators news in
    let come : (f : PlainOperator) → Contains t.operators f → Contains fs (new_operator by f) =
    (λ f c. operators_come news g.operators (new_operator by f) (contains_map (new_operator by) t.operators f c)) in
    sound_all assumes fs (renamed_marked by t.marked) (with_operators news g) refl
    (marks_from (IsStatedOver fs) (map (renamed_mark by) t.marked) []
    (All-map (λ m. IsStatedOver fs m.statement) (renamed_mark by) t.marked
    (All-weaker (λ m. IsStatedOver t.operators m.statement)
    (λ m. IsStatedOver fs (renamed_statement (renaming by) m.statement))
    (λ m s. stated_renamed (renaming by) (renaming_fits by) keeps t.operators fs come m.statement s) t.marked a))
    (All-nil (λ m. IsStatedOver fs m.statement)))
    (sound_operators news g (All-map (λ f. IsBuiltIn f → ⊥) (new_operator by) t.operators own) h)

pub sound_nothing : IsSound nothing
sound_nothing =
    record {
      different = λ i j d l k. absurd (omega (arith, k));
      own = All-nil (λ f. IsBuiltIn f → ⊥);
      marked = All-nil (λ m. IsStatedOver [] m.statement);
      discharge = All-nil (IsStatedOver []);
    }
