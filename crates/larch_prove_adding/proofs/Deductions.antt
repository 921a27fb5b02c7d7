-- What follows from an equation by the deduction rows: what matches one, and what matches none.
use Rattle.std.specs.Prelude.{◌≡◌, ◌+◌, ◌<◌, ℕ, Bool, true, false, cond, List, [], ◌∷◌, map}
use Rattle.std.specs.Prelude.{if◌then◌else◌}
use Rattle.std.specs.Prelude.{bytes_eq, codes, Option, Some, None, option_map, option_and_then, refl}
use Rattle.std.specs.List.{flat_map}
use Rattle.std.proofs.Common.{ap, ap₂, arith, sym, ◌∙◌}
use Rattle.std.proofs.lemmas.Slice.Eq.{bytes_eq-Decides}
use Rattle.larch_base.specs.ByNumber.{numbered}
use Rattle.larch_term.specs.BuiltIn.{bool_sort, built_in}
use Rattle.larch_term.specs.Equality.{same_tree}
use Rattle.larch_term.specs.Operator.{PlainOperator}
use Rattle.larch_term.specs.OperatorKey.{same_operator}
use Rattle.larch_term.specs.Sorts.{WellSorted, sort_of}
use Rattle.larch_term.specs.Substitution.{image, is_entry_of, substituted_statement}
use Rattle.larch_term.specs.Tree.{Tree, var, app, none, more}
use Rattle.larch_term.specs.Truth.{truth}
use Rattle.larch_term.specs.declared.built_in.BuiltIn.TheVariants.{False, Not, And, Or, Implies, Iff, Equal, True}
use Rattle.larch_term.specs.declared.statement.Statement.{Statement}
use Rattle.larch_term.specs.declared.statement.Statement.TheVariants.{Equation}
use Rattle.larch_term.specs.declared.substitution.Entry.{Entry}
use Rattle.larch_term.proofs.Decided.{operator_Decides}
use Rattle.larch_prove_invariant.specs.CalculusFormula.{conjunction, disjunction, equality}
use Rattle.larch_prove_invariant.specs.CalculusFormula.{equivalence, falsity, implication}
use Rattle.larch_prove_invariant.specs.CalculusFormula.{negation}
use Rattle.larch_rewrite_meaning.specs.TablesRow.{PlainRow}
use Rattle.larch_rewrite_meaning.specs.TablesSpelling.{a, b, x, y}
use Rattle.larch_rewrite_meaning.specs.TablesTables.{deduction_rows}
use Rattle.larch_rewrite_meaning.specs.Matching.{bound, match_term, matched_all}
use Rattle.larch_rewrite_meaning.specs.Sides.{Sides, sides_of, sides_under}
use Rattle.larch_rewrite_meaning.proofs.Matches.{match_is_right}
use Rattle.larch_prove_invariant.specs.DeriveFormulasConsequences.{Follows}
use Rattle.larch_prove_adding.specs.Deductions.{Deduction, Conjunction, Disjunction, Negation, Implication, Equality}
use Rattle.larch_prove_adding.specs.Deductions.{Equivalence, found_by, left_by}
use Rattle.larch_prove_adding.specs.Deductions.{right_by}
use Rattle.larch_prove_invariant.specs.ProveMeaningFacts.{consequences_by, deduce, first_consequences, sort_within}

-- ---- rows one by one

-- the first of rows matches, or the others are looked at
first_row : (row : PlainRow) (rows : List PlainRow) (e : Sides) (found : List Sides)
    → consequences_by row e ≡ Some found → first_consequences (row ∷ rows) e ≡ Some found
first_row row rows e found h =
    ap (λ (o : Option (List Sides)). elim o [ None ↦ first_consequences rows e | Some cs ↦ Some cs ]) h

later_row : (row : PlainRow) (rows : List PlainRow) (e : Sides) → consequences_by row e ≡ None
    → first_consequences (row ∷ rows) e ≡ first_consequences rows e
later_row row rows e h =
    ap (λ (o : Option (List Sides)). elim o [ None ↦ first_consequences rows e | Some cs ↦ Some cs ]) h

-- a row with a constant on its right
abbrev row_by : Bool → Tree → PlainOperator → List Statement → PlainRow
row_by sorted l c cs = record { sorted = sorted; given = Equation l (app c none); consequences = cs }

-- the seven rows, one behind the other
abbrev conjunctions : PlainRow
conjunctions = row_by false (conjunction x y) (built_in True bool_sort) (Equation x truth ∷ Equation y truth ∷ [])

abbrev disjunctions : PlainRow
disjunctions =
    row_by false (disjunction x y) (built_in False bool_sort) (Equation x falsity ∷ Equation y falsity ∷ [])

abbrev negations : PlainRow
negations = row_by false (negation x) (built_in True bool_sort) (Equation x falsity ∷ [])

abbrev denials : PlainRow
denials = row_by false (negation x) (built_in False bool_sort) (Equation x truth ∷ [])

abbrev implications : PlainRow
implications = row_by false (implication x y) (built_in False bool_sort) (Equation x truth ∷ Equation y falsity ∷ [])

abbrev equalities : List ℕ → PlainRow
equalities s = row_by true (equality s (a s) (b s)) (built_in True bool_sort) (Equation (a s) (b s) ∷ [])

abbrev equivalences : PlainRow
equivalences = row_by false (equivalence x y) (built_in True bool_sort) (Equation x y ∷ [])

abbrev seventh : List PlainRow
seventh = equivalences ∷ []

abbrev from_sixth : List ℕ → List PlainRow
from_sixth s = equalities s ∷ seventh

abbrev from_fifth : List ℕ → List PlainRow
from_fifth s = implications ∷ from_sixth s

abbrev from_fourth : List ℕ → List PlainRow
from_fourth s = denials ∷ from_fifth s

abbrev from_third : List ℕ → List PlainRow
from_third s = negations ∷ from_fourth s

abbrev from_second : List ℕ → List PlainRow
from_second s = disjunctions ∷ from_third s

-- ---- what matches

itself : (s : List ℕ) → bytes_eq s s ≡ true
itself s = (bytes_eq-Decides s s).1 refl

sort_told : (t : Tree) (s : List ℕ) → sort_of t ≡ s → bytes_eq (sort_of t) s ≡ true
sort_told t s e = (bytes_eq-Decides (sort_of t) s).1 e

operator_told : (f : PlainOperator) → same_operator f f ≡ true
operator_told f = (operator_Decides f f).1 refl

abbrev entry : List ℕ → List ℕ → Tree → Entry
entry n s t = record { name = n; sort = s; term = t }

-- a variable that nothing is bound for, and one beside another
first_bound : (n s : List ℕ) (t : Tree) → sort_of t ≡ s → match_term (var n s) t [] ≡ Some (entry n s t ∷ [])
first_bound n s t e =
    ap (λ q. if q then Some (entry n s t ∷ []) else None) (sort_told t s e)

abbrev two : PlainOperator → Tree → Tree → Tree
two f t u = app f (more t (more u none))

second_bound : (n s m z : List ℕ) (t u : Tree) → sort_of u ≡ z → is_entry_of m z (entry n s t) ≡ false
    → match_term (var m z) u (entry n s t ∷ []) ≡ Some (entry m z u ∷ entry n s t ∷ [])
second_bound n s m z t u e k =
    let es = entry n s t ∷ [] in
    ap (λ q. if q then bound es m z u es else None) (sort_told u z e)
    ∙ ap (λ q. elim q [
      | true ↦ if same_tree t u then Some es else None
      | false ↦ Some (entry m z u ∷ es)
    ]) k

constant_matched : (c : PlainOperator) (es : List Entry) → match_term (app c none) (app c none) es ≡ Some es
constant_matched c es = ap (λ q. elim q [ true ↦ Some es | false ↦ None ]) (operator_told c)

both_bound : (f : PlainOperator) (n s m z : List ℕ) (t u : Tree) → sort_of t ≡ s → sort_of u ≡ z
    → is_entry_of m z (entry n s t) ≡ false
    → match_term (two f (var n s) (var m z)) (two f t u) [] ≡ Some (entry m z u ∷ entry n s t ∷ [])
both_bound f n s m z t u p q k =
    ap (λ q. elim q [
      | true ↦ matched_all (more (var n s) (more (var m z) none)) (more t (more u none)) []
      | false ↦ None
    ]) (operator_told f)
    ∙ ap (λ o. option_and_then (λ ds. matched_all (more (var m z) none) (more u none) ds) o) (first_bound n s t p)
    ∙ ap (λ o. option_and_then (λ ds. matched_all none none ds) o) (second_bound n s m z t u q k)

alone_bound : (f : PlainOperator) (n s : List ℕ) (t : Tree) → sort_of t ≡ s
    → match_term (app f (more (var n s) none)) (app f (more t none)) [] ≡ Some (entry n s t ∷ [])
alone_bound f n s t p =
    ap (λ q. elim q [ true ↦ matched_all (more (var n s) none) (more t none) [] | false ↦ None ]) (operator_told f)
    ∙ ap (λ o. option_and_then (λ ds. matched_all none none ds) o) (first_bound n s t p)

-- what a row's equation makes of a match of the left side
abbrev under : List Statement → List Entry → List Sides
under cs es = map (sides_under es) (flat_map sides_of cs)

found_by_left : (sorted : Bool) (l k : Tree) (c : PlainOperator) (cs : List Statement) (es : List Entry)
    → match_term l k [] ≡ Some es
    → consequences_by (row_by sorted l c cs) (record { left = k; right = app c none }) ≡ Some (under cs es)
found_by_left sorted l k c cs es h =
    ap (λ o. option_map (under cs) (option_and_then (λ ds. match_term (app c none) (app c none) ds) o)) h
    ∙ ap (option_map (under cs)) (constant_matched c es)

-- rows of two variables of truth values, of one, and of two at a sort
abbrev for_both : List ℕ → List ℕ → List ℕ → Tree → Tree → List Entry
for_both n m s t u = entry m s u ∷ entry n s t ∷ []

truths_found : (f c : PlainOperator) (cs : List Statement) (t u : Tree) → sort_of t ≡ bool_sort
    → sort_of u ≡ bool_sort
    → consequences_by (row_by false (two f x y) c cs) (record { left = two f t u; right = app c none })
    ≡ Some (under cs (for_both (codes "x") (codes "y") bool_sort t u))
truths_found f c cs t u p q =
    found_by_left false (two f x y) (two f t u) c cs (for_both (codes "x") (codes "y") bool_sort t u)
    (both_bound f (codes "x") bool_sort (codes "y") bool_sort t u p q refl)

truth_found : (f c : PlainOperator) (cs : List Statement) (t : Tree) → sort_of t ≡ bool_sort
    → consequences_by (row_by false (app f (more x none)) c cs)
    (record { left = app f (more t none); right = app c none })
    ≡ Some (under cs (entry (codes "x") bool_sort t ∷ []))
truth_found f c cs t p =
    found_by_left false (app f (more x none)) (app f (more t none)) c cs (entry (codes "x") bool_sort t ∷ [])
    (alone_bound f (codes "x") bool_sort t p)

values_found : (f c : PlainOperator) (cs : List Statement) (s : List ℕ) (t u : Tree) → sort_of t ≡ s → sort_of u ≡ s
    → consequences_by (row_by true (two f (a s) (b s)) c cs) (record { left = two f t u; right = app c none })
    ≡ Some (under cs (for_both (codes "a") (codes "b") s t u))
values_found f c cs s t u p q =
    found_by_left true (two f (a s) (b s)) (two f t u) c cs (for_both (codes "a") (codes "b") s t u)
    (both_bound f (codes "a") s (codes "b") s t u p q refl)

-- ---- what follows from each kind of equation

both_sorts : (p q r v : List ℕ) → p ∷ q ∷ [] ≡ r ∷ v ∷ [] → (p ≡ r) × (q ≡ v)
both_sorts p q r v e = (cc, cc)

only_sort : (p r : List ℕ) → p ∷ [] ≡ r ∷ [] → p ≡ r
only_sort p r e = cc

-- what a and b stand for
for_a : (s : List ℕ) (t u : Tree) → image (entry (codes "b") s u ∷ entry (codes "a") s t ∷ []) (codes "a") s ≡ t
for_a s t u = ap (λ c. cond c t (var (codes "a") s)) (itself s)

for_b : (s : List ℕ) (t u : Tree) → image (entry (codes "b") s u ∷ entry (codes "a") s t ∷ []) (codes "b") s ≡ u
for_b s t u =
    ap (λ c. cond c u (image (entry (codes "a") s t ∷ []) (codes "b") s)) (itself s)

-- what a deduction's equation is
abbrev pub sides : Deduction → List ℕ → Tree → Tree → Sides
sides d s t u = record { left = left_by d s t u; right = right_by d }

-- a constant is no other one
false_is_other : (cs : List Statement) (o : Option (List Entry))
    → option_map (under cs) (option_and_then (λ ds. match_term truth falsity ds) o) ≡ None
unfolding same_operator
false_is_other cs None = refl
false_is_other cs (Some es) = refl

pub deduced_by : (d : Deduction) (s : List ℕ) (t u : Tree) → WellSorted (left_by d s t u)
    → deduce (sides d s t u) ≡ Some (flat_map sides_of (found_by d t u))
unfolding same_operator
deduced_by Conjunction s t u w =
    let h = both_sorts _ _ _ _ w.0 in
    first_row conjunctions (from_second bool_sort) (sides Conjunction s t u) _
    (truths_found (built_in And bool_sort) (built_in True bool_sort)
    (Equation x truth ∷ Equation y truth ∷ []) t u h.0 h.1)
deduced_by Disjunction s t u w =
    let h = both_sorts _ _ _ _ w.0 in
    let e = sides Disjunction s t u in
    later_row conjunctions (from_second bool_sort) e refl
    ∙ first_row disjunctions (from_third bool_sort) e _
    (truths_found (built_in Or bool_sort) (built_in False bool_sort)
    (Equation x falsity ∷ Equation y falsity ∷ []) t u h.0 h.1)
deduced_by (Negation true) s t u w =
    let h = only_sort _ _ w.0 in
    let e = sides (Negation true) s t u in
    later_row conjunctions (from_second bool_sort) e refl
    ∙ (later_row disjunctions (from_third bool_sort) e refl
    ∙ first_row negations (from_fourth bool_sort) e _
    (truth_found (built_in Not bool_sort) (built_in True bool_sort) (Equation x falsity ∷ []) t h))
deduced_by (Negation false) s t u w =
    let h = only_sort _ _ w.0 in
    let e = sides (Negation false) s t u in
    later_row conjunctions (from_second bool_sort) e refl
    ∙ (later_row disjunctions (from_third bool_sort) e refl
    ∙ (later_row negations (from_fourth bool_sort) e (false_is_other (Equation x falsity ∷ []) _)
    ∙ first_row denials (from_fifth bool_sort) e _
    (truth_found (built_in Not bool_sort) (built_in False bool_sort) (Equation x truth ∷ []) t h)))
deduced_by Implication s t u w =
    let h = both_sorts _ _ _ _ w.0 in
    let e = sides Implication s t u in
    later_row conjunctions (from_second bool_sort) e refl
    ∙ (later_row disjunctions (from_third bool_sort) e refl
    ∙ (later_row negations (from_fourth bool_sort) e refl
    ∙ (later_row denials (from_fifth bool_sort) e refl
    ∙ first_row implications (from_sixth bool_sort) e _
    (truths_found (built_in Implies bool_sort) (built_in False bool_sort)
    (Equation x truth ∷ Equation y falsity ∷ []) t u h.0 h.1))))
deduced_by Equality s t u w =
    let h = both_sorts _ _ _ _ w.0 in
    let e = sides Equality s t u in
    later_row conjunctions (from_second s) e refl
    ∙ (later_row disjunctions (from_third s) e refl
    ∙ (later_row negations (from_fourth s) e refl
    ∙ (later_row denials (from_fifth s) e refl
    ∙ (later_row implications (from_sixth s) e refl
    ∙ (first_row (equalities s) seventh e _
    (values_found (built_in Equal s) (built_in True bool_sort) (Equation (a s) (b s) ∷ []) s t u h.0 h.1)
    ∙ ap₂ (λ v w. Some (record { left = v; right = w } ∷ [])) (for_a s t u) (for_b s t u))))))
deduced_by Equivalence s t u w =
    let h = both_sorts _ _ _ _ w.0 in
    let e = sides Equivalence s t u in
    later_row conjunctions (from_second bool_sort) e refl
    ∙ (later_row disjunctions (from_third bool_sort) e refl
    ∙ (later_row negations (from_fourth bool_sort) e refl
    ∙ (later_row denials (from_fifth bool_sort) e refl
    ∙ (later_row implications (from_sixth bool_sort) e refl
    ∙ (later_row (equalities bool_sort) seventh e refl
    ∙ first_row equivalences [] e _
    (truths_found (built_in Iff bool_sort) (built_in True bool_sort)
    (Equation x y ∷ []) t u h.0 h.1))))))

-- ---- what matches no row

pub not_some : {X : Type 0} (x : X) → None ≡ Some x → ⊥
not_some x e = cc

same_some : {X : Type 0} (x y : X) → Some x ≡ Some y → x ≡ y
same_some x y e = cc

-- what a constant matches
abbrev IsConstant : PlainOperator → Tree → List Entry → List Entry → Type 0
IsConstant c r ds es = (es ≡ ds) × (app c none ≡ r)

constant_told : (c : PlainOperator) (r : Tree) (ds es : List Entry) → match_term (app c none) r ds ≡ Some es
    → IsConstant c r ds es
constant_told c (var n s) ds es e = absurd (not_some es e)
constant_told c (app g none) ds es e = by_test (same_operator c g) refl e
  where
    by_test : (q : Bool) → same_operator c g ≡ q → elim q [ true ↦ Some ds | false ↦ None ] ≡ Some es
        → IsConstant c (app g none) ds es
    by_test true h k = (sym (same_some ds es k), ap (λ f. app f none) ((operator_Decides c g).0 h))
    by_test false h k = absurd (not_some es k)
constant_told c (app g (more t ts)) ds es e = by_test (same_operator c g) e
  where
    by_test : (q : Bool) → elim q [ true ↦ None | false ↦ None ] ≡ Some es
        → IsConstant c (app g (more t ts)) ds es
    by_test true k = absurd (not_some es k)
    by_test false k = absurd (not_some es k)

-- a row that matches is one by which something follows
refused : (n : ℕ) (s : List ℕ) (sorted : Bool) (l : Tree) (c : PlainOperator) (cs : List Statement) (e : Sides)
    → numbered (deduction_rows s) n ≡ Some (row_by sorted l c cs)
    → ((es : List Statement) → Follows n (Equation e.left e.right) es → ⊥)
    → consequences_by (row_by sorted l c cs) e ≡ None
refused n s sorted l c cs e k never = by_left (match_term l e.left []) refl
  where
    by_right : (ds : List Entry) → match_term l e.left [] ≡ Some ds → (o : Option (List Entry))
        → match_term (app c none) e.right ds ≡ o → option_map (under cs) o ≡ None
    by_right ds p None q = refl
    by_right ds p (Some es) q =
        let h = constant_told c e.right ds es q in
        absurd (never (map (substituted_statement ds) cs) (record {
          sort = s;
          by = ds;
          row = row_by sorted l c cs;
          has_number = k;
          equation = ap₂ Equation (match_is_right l e.left ds p) h.1;
          consequences = refl;
        }))

    by_left : (o : Option (List Entry)) → match_term l e.left [] ≡ o
        → option_map (under cs) (option_and_then (λ ds. match_term (app c none) e.right ds) o) ≡ None
    by_left None p = refl
    by_left (Some ds) p = by_right ds p (match_term (app c none) e.right ds) refl

-- where nothing follows by any of the seven numbers, nothing is deduced
pub nothing_deduced : (e : Sides)
    → ((n : ℕ) → n < 7 → (es : List Statement) → Follows (n + 1) (Equation e.left e.right) es → ⊥)
    → deduce e ≡ None
nothing_deduced e never =
    let s = sort_within e.left in
    later_row conjunctions (from_second s) e (refused 1 s _ _ _ _ e refl (never 0 (omega arith)))
    ∙ (later_row disjunctions (from_third s) e (refused 2 s _ _ _ _ e refl (never 1 (omega arith)))
    ∙ (later_row negations (from_fourth s) e (refused 3 s _ _ _ _ e refl (never 2 (omega arith)))
    ∙ (later_row denials (from_fifth s) e (refused 4 s _ _ _ _ e refl (never 3 (omega arith)))
    ∙ (later_row implications (from_sixth s) e (refused 5 s _ _ _ _ e refl (never 4 (omega arith)))
    ∙ (later_row (equalities s) seventh e (refused 6 s _ _ _ _ e refl (never 5 (omega arith)))
    ∙ later_row equivalences [] e (refused 7 s _ _ _ _ e refl (never 6 (omega arith))))))))
