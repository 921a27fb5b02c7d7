-- What follows by the number of a deduction row is what the definition deduces.
use Rattle.std.specs.Prelude.{◌≡◌, ◌<◌, ◌-◌, ◌==◌, ◌++◌, ℕ, zero, suc, Bool, true, false, cond, List, [], ◌∷◌}
use Rattle.std.specs.Prelude.{length, map, codes, bytes_eq, slice_get, Option, Some, None, option_map}
use Rattle.std.specs.Prelude.{option_and_then, refl}
use Rattle.std.proofs.Common.{ap, ap₂, arith, subst, sym, ◌∙◌}
use Rattle.std.proofs.lemmas.Option.{slice_get_past}
use Rattle.std.proofs.lemmas.Slice.Eq.{bytes_eq-Decides}
use Rattle.larch_base.proofs.Options.{some_inj}
use Rattle.larch_base.specs.ByNumber.{numbered}
use Rattle.larch_term.specs.BuiltIn.{bool_sort, built_in}
use Rattle.larch_term.specs.OperatorKey.{operator_Decides, same_operator}
use Rattle.larch_term.specs.Sorts.{WellSorted, sort_of}
use Rattle.larch_term.specs.Substitution.{image, substituted_statement}
use Rattle.larch_term.specs.Tree.{Tree, var, none, more}
use Rattle.larch_term.specs.Truth.{truth}
use Rattle.larch_term.specs.declared.built_in.BuiltIn.TheVariants.{Equal}
use Rattle.larch_term.specs.declared.statement.Statement.{Statement}
use Rattle.larch_term.specs.declared.statement.Statement.TheVariants.{Equation}
use Rattle.larch_term.specs.declared.substitution.Entry.{Entry}
use Rattle.larch_calculus.specs.Formula.{conjunction, disjunction, equality, equivalence, falsity, implication}
use Rattle.larch_calculus.specs.Formula.{negation}
use Rattle.larch_derive.specs.TablesRow.{PlainRow}
use Rattle.larch_derive.specs.TablesSpelling.{a, b, x, y}
use Rattle.larch_derive.specs.TablesTables.{deduced_at_bool, deduced_at_each, deduction_rows}
use Rattle.larch_derive_formulas.specs.Consequences.{Follows}
use Rattle.larch_methods.specs.RewriteMeaningMatching.{match_term, matched_all}
use Rattle.larch_methods.specs.RewriteMeaningSides.{Sides, sides_under}
use Rattle.larch_methods.specs.ProveMeaningFacts.{consequences_by, deduce, first_consequences}
use Rattle.larch_methods.specs.ProvePlansPlanning.{equate}

-- ---- rows in turn

-- each row, and those behind it
abbrev conjunction_row : PlainRow
conjunction_row = deduced_at_bool (Equation (conjunction x y) truth) (Equation x truth ∷ Equation y truth ∷ [])

abbrev disjunction_row : PlainRow
disjunction_row = deduced_at_bool (Equation (disjunction x y) falsity) (Equation x falsity ∷ Equation y falsity ∷ [])

abbrev true_negation_row : PlainRow
true_negation_row = deduced_at_bool (Equation (negation x) truth) (Equation x falsity ∷ [])

abbrev false_negation_row : PlainRow
false_negation_row = deduced_at_bool (Equation (negation x) falsity) (Equation x truth ∷ [])

abbrev implication_row : PlainRow
implication_row = deduced_at_bool (Equation (implication x y) falsity) (Equation x truth ∷ Equation y falsity ∷ [])

abbrev equality_row : List ℕ → PlainRow
equality_row s = deduced_at_each (Equation (equality s (a s) (b s)) truth) (Equation (a s) (b s) ∷ [])

abbrev equivalence_row : PlainRow
equivalence_row = deduced_at_bool (Equation (equivalence x y) truth) (Equation x y ∷ [])

-- those that come before one
abbrev before_false_negation : List PlainRow
before_false_negation = conjunction_row ∷ disjunction_row ∷ true_negation_row ∷ []

abbrev before_equality : List PlainRow
before_equality = conjunction_row ∷ disjunction_row ∷ true_negation_row ∷ false_negation_row ∷ implication_row ∷ []

-- and those behind one, at a sort
abbrev behind_false_negation : List ℕ → List PlainRow
behind_false_negation s = implication_row ∷ equality_row s ∷ equivalence_row ∷ []

abbrev behind_conjunction : List ℕ → List PlainRow
behind_conjunction s = disjunction_row ∷ true_negation_row ∷ false_negation_row ∷ behind_false_negation s

-- no row matches the equation
abbrev AreSkipped : Sides → List PlainRow → Type 0
AreSkipped e [] = Unit {0}
AreSkipped e (row ∷ rows) = (consequences_by row e ≡ None) × AreSkipped e rows

-- the first that matches, behind rows that don't
found_behind : (rows : List PlainRow) (row : PlainRow) (rest : List PlainRow) (e : Sides) (found : List Sides)
    → AreSkipped e rows → consequences_by row e ≡ Some found → first_consequences (rows ++ row ∷ rest) e ≡ Some found
found_behind [] row rest e found h k =
    ap (λ o. elim o [ None ↦ first_consequences rest e | Some cs ↦ Some cs ]) k
found_behind (other ∷ rows) row rest e found h k =
    ap (λ o. elim o [ None ↦ first_consequences (rows ++ row ∷ rest) e | Some cs ↦ Some cs ]) h.0
    ∙ found_behind rows row rest e found h.1 k

-- ---- terms in the places of a row's variables

abbrev for_x : Tree → Entry
for_x t = record { name = codes "x"; sort = bool_sort; term = t }

abbrev for_y : Tree → Entry
for_y t = record { name = codes "y"; sort = bool_sort; term = t }

abbrev for_a : List ℕ → Tree → Entry
for_a s t = record { name = codes "a"; sort = s; term = t }

abbrev for_b : List ℕ → Tree → Entry
for_b s t = record { name = codes "b"; sort = s; term = t }

has_sort : (t : Tree) (s : List ℕ) → sort_of t ≡ s → bytes_eq (sort_of t) s ≡ true
has_sort t s e = (bytes_eq-Decides (sort_of t) s).1 e

match_x : (t : Tree) → sort_of t ≡ bool_sort → match_term x t [] ≡ Some (for_x t ∷ [])
match_x t e = ap (λ c. cond c (Some (for_x t ∷ [])) None) (has_sort t bool_sort e)

match_y : (t u : Tree) → sort_of u ≡ bool_sort → match_term y u (for_x t ∷ []) ≡ Some (for_y u ∷ for_x t ∷ [])
match_y t u e = ap (λ c. cond c (Some (for_y u ∷ for_x t ∷ [])) None) (has_sort u bool_sort e)

match_a : (s : List ℕ) (t : Tree) → sort_of t ≡ s → match_term (a s) t [] ≡ Some (for_a s t ∷ [])
match_a s t e = ap (λ c. cond c (Some (for_a s t ∷ [])) None) (has_sort t s e)

match_b : (s : List ℕ) (t u : Tree) → sort_of u ≡ s
    → match_term (b s) u (for_a s t ∷ []) ≡ Some (for_b s u ∷ for_a s t ∷ [])
match_b s t u e = ap (λ c. cond c (Some (for_b s u ∷ for_a s t ∷ [])) None) (has_sort u s e)

-- one argument, and two
match_one : (t : Tree) → sort_of t ≡ bool_sort → matched_all (more x none) (more t none) [] ≡ Some (for_x t ∷ [])
match_one t e = ap (option_and_then (λ ds. matched_all none none ds)) (match_x t e)

match_two : (t u : Tree) → sort_of t ≡ bool_sort → sort_of u ≡ bool_sort
    → matched_all (more x (more y none)) (more t (more u none)) [] ≡ Some (for_y u ∷ for_x t ∷ [])
match_two t u e f =
    ap (option_and_then (λ ds. matched_all (more y none) (more u none) ds)) (match_x t e)
    ∙ ap (option_and_then (λ ds. matched_all none none ds)) (match_y t u f)

match_values : (s : List ℕ) (t u : Tree) → sort_of t ≡ s → sort_of u ≡ s
    → matched_all (more (a s) (more (b s) none)) (more t (more u none)) [] ≡ Some (for_b s u ∷ for_a s t ∷ [])
match_values s t u e f =
    ap (option_and_then (λ ds. matched_all (more (b s) none) (more u none) ds)) (match_a s t e)
    ∙ ap (option_and_then (λ ds. matched_all none none ds)) (match_b s t u f)

-- ---- the arguments of connectives

two_sorts : (t u : Tree) (s z : List ℕ) → sort_of t ∷ sort_of u ∷ [] ≡ s ∷ z ∷ [] → (sort_of t ≡ s) × (sort_of u ≡ z)
two_sorts t u s z e = (cc, cc)

one_sort : (t : Tree) (s : List ℕ) → sort_of t ∷ [] ≡ s ∷ [] → sort_of t ≡ s
one_sort t s e = cc

-- ---- what is deduced, connective by connective

abbrev equation : Tree → Tree → Sides
equation l r = record { left = l; right = r }

-- what a row makes where its left side matches and its right side then does
abbrev made_by : List Sides → Tree → Tree → Option (List Entry) → Option (List Sides)
made_by cs given right o =
    option_map (λ es. map (sides_under es) cs) (option_and_then (λ es. match_term given right es) o)

conjunction_deduced : (t u : Tree) → WellSorted (conjunction t u)
    → deduce (equation (conjunction t u) truth) ≡ Some (equation t truth ∷ equation u truth ∷ [])
unfolding same_operator
conjunction_deduced t u w =
    let s = two_sorts t u bool_sort bool_sort w.0 in
    found_behind [] conjunction_row (behind_conjunction bool_sort) (equation (conjunction t u) truth)
    (equation t truth ∷ equation u truth ∷ []) tt
    (ap (made_by (equation x truth ∷ equation y truth ∷ []) truth truth) (match_two t u s.0 s.1))

disjunction_deduced : (t u : Tree) → WellSorted (disjunction t u)
    → deduce (equation (disjunction t u) falsity) ≡ Some (equation t falsity ∷ equation u falsity ∷ [])
unfolding same_operator
disjunction_deduced t u w =
    let s = two_sorts t u bool_sort bool_sort w.0 in
    found_behind (conjunction_row ∷ []) disjunction_row
    (true_negation_row ∷ false_negation_row ∷ behind_false_negation bool_sort) (equation (disjunction t u) falsity)
    (equation t falsity ∷ equation u falsity ∷ []) (refl, tt)
    (ap (made_by (equation x falsity ∷ equation y falsity ∷ []) falsity falsity) (match_two t u s.0 s.1))

true_negation_deduced : (t : Tree) → WellSorted (negation t)
    → deduce (equation (negation t) truth) ≡ Some (equation t falsity ∷ [])
unfolding same_operator
true_negation_deduced t w =
    found_behind (conjunction_row ∷ disjunction_row ∷ []) true_negation_row
    (false_negation_row ∷ behind_false_negation bool_sort) (equation (negation t) truth) (equation t falsity ∷ [])
    (refl, (refl, tt))
    (ap (made_by (equation x falsity ∷ []) truth truth) (match_one t (one_sort t bool_sort w.0)))

false_negation_deduced : (t : Tree) → WellSorted (negation t)
    → deduce (equation (negation t) falsity) ≡ Some (equation t truth ∷ [])
unfolding same_operator
false_negation_deduced t w =
    let m = match_one t (one_sort t bool_sort w.0) in
    found_behind before_false_negation false_negation_row (behind_false_negation bool_sort)
    (equation (negation t) falsity) (equation t truth ∷ [])
    (refl, (refl, (ap (made_by (equation x falsity ∷ []) truth falsity) m, tt)))
    (ap (made_by (equation x truth ∷ []) falsity falsity) m)

implication_deduced : (t u : Tree) → WellSorted (implication t u)
    → deduce (equation (implication t u) falsity) ≡ Some (equation t truth ∷ equation u falsity ∷ [])
unfolding same_operator
implication_deduced t u w =
    let s = two_sorts t u bool_sort bool_sort w.0 in
    found_behind (conjunction_row ∷ disjunction_row ∷ true_negation_row ∷ false_negation_row ∷ []) implication_row
    (equality_row bool_sort ∷ equivalence_row ∷ []) (equation (implication t u) falsity)
    (equation t truth ∷ equation u falsity ∷ []) (refl, (refl, (refl, (refl, tt))))
    (ap (made_by (equation x truth ∷ equation y falsity ∷ []) falsity falsity) (match_two t u s.0 s.1))

equivalence_deduced : (t u : Tree) → WellSorted (equivalence t u)
    → deduce (equation (equivalence t u) truth) ≡ Some (equation t u ∷ [])
unfolding same_operator
equivalence_deduced t u w =
    let s = two_sorts t u bool_sort bool_sort w.0 in
    found_behind (before_equality ++ equality_row bool_sort ∷ []) equivalence_row [] (equation (equivalence t u) truth)
    (equation t u ∷ []) (refl, (refl, (refl, (refl, (refl, (refl, tt))))))
    (ap (made_by (equation x y ∷ []) truth truth) (match_two t u s.0 s.1))

-- what takes the places of a and b
itself : (s : List ℕ) → bytes_eq s s ≡ true
itself s = (bytes_eq-Decides s s).1 refl

image_a : (s : List ℕ) (t u : Tree) → image (for_b s u ∷ for_a s t ∷ []) (codes "a") s ≡ t
image_a s t u = ap (λ c. cond c t (var (codes "a") s)) (itself s)

image_b : (s : List ℕ) (t u : Tree) → image (for_b s u ∷ for_a s t ∷ []) (codes "b") s ≡ u
image_b s t u = ap (λ c. cond c u (var (codes "b") s)) (itself s)

equality_matches : (s : List ℕ) (t u : Tree) → sort_of t ≡ s → sort_of u ≡ s
    → match_term (equality s (a s) (b s)) (equality s t u) [] ≡ Some (for_b s u ∷ for_a s t ∷ [])
equality_matches s t u e f =
    ap (λ c. elim c [ true ↦ matched_all (more (a s) (more (b s) none)) (more t (more u none)) [] | false ↦ None ])
    ((operator_Decides (built_in Equal s) (built_in Equal s)).1 refl)
    ∙ match_values s t u e f

equality_deduced : (s : List ℕ) (t u : Tree) → WellSorted (equality s t u)
    → deduce (equation (equality s t u) truth) ≡ Some (equation t u ∷ [])
unfolding same_operator
equality_deduced s t u w =
    let k = two_sorts t u s s w.0 in
    found_behind before_equality (equality_row s) (equivalence_row ∷ []) (equation (equality s t u) truth)
    (equation t u ∷ []) (refl, (refl, (refl, (refl, (refl, tt)))))
    (ap (made_by (equation (a s) (b s) ∷ []) truth truth) (equality_matches s t u k.0 k.1)
    ∙ ap₂ (λ p q. Some (equation p q ∷ [])) (image_a s t u) (image_b s t u))

-- ---- what follows by a number is deduced

-- what was deduced is these statements
abbrev IsDeduced : Sides → List Statement → Type 0
IsDeduced e es = (found : List Sides) × ((deduce e ≡ Some found) × (map equate found ≡ es))

sides_are : (l r : Tree) (e : Sides) → Equation l r ≡ equate e → equation l r ≡ e
sides_are l r e h = λ i. record { left = left h i; right = right h i }
  where
    left : Equation l r ≡ Equation e.left e.right → l ≡ e.left
    left q = cc

    right : Equation l r ≡ Equation e.left e.right → r ≡ e.right
    right q = cc

deduced_as : (l r : Tree) (found : List Sides) (e : Sides) (es : List Statement) → WellSorted e.left
    → (WellSorted l → deduce (equation l r) ≡ Some found) → Equation l r ≡ equate e → map equate found ≡ es
    → IsDeduced e es
deduced_as l r found e es w h q k =
    let same = sides_are l r e q in (
      found,
      (
        subst (λ d. deduce d ≡ Some found) same
            (h (subst (λ (d : Sides). WellSorted d.left) (sym same) w)),
        k,
      ),
    )

row_is : (n : ℕ) (e : Statement) (es : List Statement) (h : Follows n e es) (r : PlainRow) → Some r ≡ Some h.row
    → (substituted_statement h.by r.given ≡ e) × (map (substituted_statement h.by) r.consequences ≡ es)
row_is n e es h r k = (
  ap (λ q. substituted_statement h.by q.given) (some_inj k) ∙ h.equation,
  ap (λ q. map (substituted_statement h.by) q.consequences) (some_inj k) ∙ h.consequences,
)

either : {A : Type 0} (c : Bool) (o : Option A) → o ≡ None → cond c None o ≡ None
either true o e = refl
either false o e = e

-- of seven the eighth and further ones are none
past : {A : Type 0} (xs : List A) (n : ℕ) → length xs ≡ 7 → 7 < n → numbered xs n ≡ None
past xs n k l = either (n == 0) (slice_get xs (n - 1)) (slice_get_past xs (n - 1) (omega (arith, k, l)))

many : (n : ℕ) → 7 < suc (suc (suc (suc (suc (suc (suc (suc n)))))))
many n = omega arith

pub follows_deduced : (e : Sides) (n : ℕ) (es : List Statement) → WellSorted e.left → Follows n (equate e) es
    → (found : List Sides) × ((deduce e ≡ Some found) × (map equate found ≡ es))
follows_deduced e zero es w h = let q : None ≡ Some h.row = h.has_number in cc
follows_deduced e (suc zero) es w h =
    let k = row_is 1 (equate e) es h _ h.has_number in
    let t = image h.by (codes "x") bool_sort in
    let u = image h.by (codes "y") bool_sort in
    deduced_as (conjunction t u) truth (equation t truth ∷ equation u truth ∷ []) e es w (conjunction_deduced t u) k.0
    k.1
follows_deduced e (suc (suc zero)) es w h =
    let k = row_is 2 (equate e) es h _ h.has_number in
    let t = image h.by (codes "x") bool_sort in
    let u = image h.by (codes "y") bool_sort in
    deduced_as (disjunction t u) falsity (equation t falsity ∷ equation u falsity ∷ []) e es w
    (disjunction_deduced t u) k.0 k.1
follows_deduced e (suc (suc (suc zero))) es w h =
    let k = row_is 3 (equate e) es h _ h.has_number in
    let t = image h.by (codes "x") bool_sort in
    deduced_as (negation t) truth (equation t falsity ∷ []) e es w (true_negation_deduced t) k.0 k.1
follows_deduced e (suc (suc (suc (suc zero)))) es w h =
    let k = row_is 4 (equate e) es h _ h.has_number in
    let t = image h.by (codes "x") bool_sort in
    deduced_as (negation t) falsity (equation t truth ∷ []) e es w (false_negation_deduced t) k.0 k.1
follows_deduced e (suc (suc (suc (suc (suc zero))))) es w h =
    let k = row_is 5 (equate e) es h _ h.has_number in
    let t = image h.by (codes "x") bool_sort in
    let u = image h.by (codes "y") bool_sort in
    deduced_as (implication t u) falsity (equation t truth ∷ equation u falsity ∷ []) e es w
    (implication_deduced t u) k.0 k.1
follows_deduced e (suc (suc (suc (suc (suc (suc zero)))))) es w h =
    let k = row_is 6 (equate e) es h _ h.has_number in
    let t = image h.by (codes "a") h.sort in
    let u = image h.by (codes "b") h.sort in
    deduced_as (equality h.sort t u) truth (equation t u ∷ []) e es w (equality_deduced h.sort t u) k.0 k.1
follows_deduced e (suc (suc (suc (suc (suc (suc (suc zero))))))) es w h =
    let k = row_is 7 (equate e) es h _ h.has_number in
    let t = image h.by (codes "x") bool_sort in
    let u = image h.by (codes "y") bool_sort in
    deduced_as (equivalence t u) truth (equation t u ∷ []) e es w (equivalence_deduced t u) k.0 k.1
follows_deduced e (suc (suc (suc (suc (suc (suc (suc (suc n)))))))) es w h =
    let q = sym (past (deduction_rows h.sort) _ refl (many n)) ∙ h.has_number in
    cc
