-- Adding keeps facts well sorted.
use Rattle.std.specs.Prelude.{◌≡◌, ℕ, zero, suc, Bool, true, false, cond, not, ◌&&◌, ◌||◌, List, [], ◌∷◌, ◌++◌, map}
use Rattle.std.specs.Prelude.{filter}
use Rattle.std.specs.Prelude.{All, Contains, bytes_eq, Option, Some, None, option_map, option_and_then, refl}
use Rattle.std.specs.List.{flat_map}
use Rattle.std.proofs.Common.{inl, inr, ap, ap₂, sym, subst, ◌∙◌}
use Rattle.std.proofs.lemmas.List.Elements.{All-weaker, All-push}
use Rattle.std.proofs.lemmas.Slice.Eq.{bytes_eq-Decides}
use Rattle.larch_base.specs.declared.fact_name.FactName.{FactName}
use Rattle.larch_base.proofs.Lists.{all_from}
use Rattle.larch_base.proofs.Members.{contains_here, contains_later, contains_cases, contains_none, contained_in_map}
use Rattle.larch_base.proofs.Members.{contained_in_filter}
use Rattle.larch_term.specs.Operator.{PlainOperator}
use Rattle.larch_term.specs.Tree.{Tree, var}
use Rattle.larch_term.specs.BuiltIn.{bool_sort}
use Rattle.larch_term.specs.Equality.{same_tree}
use Rattle.larch_term.specs.Sorts.{sort_of, WellSorted, IsOver, IsTermOver}
use Rattle.larch_term.specs.Truth.{truth}
use Rattle.larch_term.specs.declared.built_in.BuiltIn.TheVariants.{True, False, Iff, Equal}
use Rattle.larch_term.specs.declared.substitution.Entry.{Entry}
use Rattle.larch_pairs_critical.proofs.TermLawSubstitutions.{substituted_sort, substituted_well_sorted}
use Rattle.larch_pairs_critical.proofs.TermLawSubstitutions.{substituted_over}
use Rattle.larch_rewrite_meaning.specs.CalculusFormula.{falsity, equivalence, equality}
use Rattle.larch_rewrite_meaning.specs.TablesRow.{PlainRow}
use Rattle.larch_rewrite_meaning.specs.TablesSpelling.{x, y, b}
use Rattle.larch_rewrite_meaning.specs.TablesTables.{deduction_rows}
use Rattle.larch_order.specs.Greater.{greater}
use Rattle.larch_order.specs.declared.precedence.Ranked.{Ranked}
use Rattle.larch_rewrite_meaning.specs.Matching.{match_term}
use Rattle.larch_rewrite_meaning.specs.NormalForm.{normal}
use Rattle.larch_rewrite_meaning.specs.Sides.{Sides, sides_of, sides_under, flip, AreSidesOver}
use Rattle.larch_rewrite_meaning.specs.Work.{Work, Made, OverLimit, OverSize, then_work, is_large, within_size}
use Rattle.larch_rewrite_meaning.proofs.Matches.{IsBound, AreBound, matched_fits, match_over, terms_inherited}
use Rattle.larch_rewrite_meaning.proofs.Matches.{AllTermsOver}
use Rattle.larch_rewrite_meaning.proofs.SortsKept.{normal_keeps}
use Rattle.larch_prove_meaning.specs.Facts.{Fact, Facts, Manner, Treatment, Drop, Contradict, Replace, Keep, serving}
use Rattle.larch_prove_meaning.specs.Facts.{is_value, truth_to_right, sort_within, matched_sides, consequences_by}
use Rattle.larch_prove_meaning.specs.Facts.{first_consequences, deduce, equality_term, orient, replaced_or_kept}
use Rattle.larch_prove_meaning.specs.Facts.{treatment_of, treatment, with_rule, with_contradiction, is_full}
use Rattle.larch_prove_meaning.specs.Facts.{normal_sides, add_waiting, add, most_taken}

-- facts whose rules are well sorted over operators
abbrev AreFactsOver : List PlainOperator → List Fact → Type 0
AreFactsOver fs facts = All (λ fact. AreSidesOver fs fact.sides) facts

-- equations that are well sorted over operators
abbrev AreAllOver : List PlainOperator → List Sides → Type 0
AreAllOver fs es = (e : Sides) → Contains es e → AreSidesOver fs e

-- ---- terms that every theory has

pub truth_over : (fs : List PlainOperator) → IsTermOver fs truth
truth_over fs = ((refl, tt), (inr (True, (bool_sort, refl)), tt))

pub falsity_over : (fs : List PlainOperator) → IsTermOver fs falsity
falsity_over fs = ((refl, tt), (inr (False, (bool_sort, refl)), tt))

-- ---- what follows from an equation

one_over : (fs : List PlainOperator) (d : Sides) → AreSidesOver fs d → AreAllOver fs (d ∷ [])
one_over fs d h e c = elim (contains_cases d e [] c) [
  | inl q ↦ subst (AreSidesOver fs) q h
  | inr n ↦ absurd (contains_none e n)
]

two_over : (fs : List PlainOperator) (d f : Sides) → AreSidesOver fs d → AreSidesOver fs f → AreAllOver fs (d ∷ f ∷ [])
two_over fs d f h k e c = elim (contains_cases d e (f ∷ []) c) [
  | inl q ↦ subst (AreSidesOver fs) q h
  | inr n ↦ one_over fs f k e n
]

-- the consequences of a row are well sorted
abbrev IsRowOver : List PlainOperator → PlainRow → Type 0
IsRowOver fs row = AreAllOver fs (flat_map sides_of row.consequences)

abbrev AreRowsOver : List PlainOperator → List PlainRow → Type 0
AreRowsOver fs [] = Unit {0}
AreRowsOver fs (row ∷ rows) = IsRowOver fs row × AreRowsOver fs rows

variable_over : (fs : List PlainOperator) (n s : List ℕ) → IsTermOver fs (var n s)
variable_over fs n s = (tt, tt)

rows_over : (fs : List PlainOperator) (s : List ℕ) → AreRowsOver fs (deduction_rows s)
rows_over fs s =
    let t = truth_over fs in
    let f = falsity_over fs in
    let holds_x : AreSidesOver fs (record { left = x; right = truth }) = ((tt, tt), t, refl) in
    let holds_y : AreSidesOver fs (record { left = y; right = truth }) = ((tt, tt), t, refl) in
    let fails_x : AreSidesOver fs (record { left = x; right = falsity }) = ((tt, tt), f, refl) in
    let fails_y : AreSidesOver fs (record { left = y; right = falsity }) = ((tt, tt), f, refl) in (
      two_over fs _ _ holds_x holds_y,
      (
        two_over fs _ _ fails_x fails_y,
        (
          one_over fs _ fails_x,
          (
            one_over fs _ holds_x,
            (
              two_over fs _ _ holds_x fails_y,
              (
                one_over fs _ ((tt, tt), (tt, tt), refl),
                (one_over fs _ ((tt, tt), (tt, tt), refl), tt),
              ),
            ),
          ),
        ),
      ),
    )

pub sides_under_over : (fs : List PlainOperator) (es : List Entry) (d : Sides) → AreBound (IsTermOver fs) es
    → AreSidesOver fs d → AreSidesOver fs (sides_under es d)
sides_under_over fs es d h k =
    let fits = All-weaker (IsBound (IsTermOver fs)) (λ e. WellSorted e.term × (sort_of e.term ≡ e.sort))
    (λ e q. (q.0.0, q.1)) es h in
    let over = All-weaker (IsBound (IsTermOver fs)) (λ e. IsOver fs e.term) (λ e q. q.0.1) es h in (
      (substituted_well_sorted es d.left fits k.0.0, substituted_over fs es d.left over k.0.1),
      (substituted_well_sorted es d.right fits k.1.0, substituted_over fs es d.right over k.1.1),
      substituted_sort es d.left fits ∙ (k.2 ∙ sym (substituted_sort es d.right fits)),
    )

some_same : {A : Type 0} {p q : A} → Some p ≡ Some q → p ≡ q
some_same e = cc

both_matched : (fs : List PlainOperator) (given e : Sides) (o : Option (List Entry)) (es : List Entry)
    → AreSidesOver fs e → match_term given.left e.left [] ≡ o
    → option_and_then (λ ds. match_term given.right e.right ds) o ≡ Some es → AreBound (IsTermOver fs) es
both_matched fs given e None es h q k = cc
both_matched fs given e (Some ds) es h q k =
    matched_fits (IsTermOver fs) (AllTermsOver fs) (terms_inherited fs) given.right e.right ds es
    (match_over fs given.left e.left ds h.0 q) h.1 k

under_all : (fs : List PlainOperator) (es : List Entry) (cs : List Sides) → AreBound (IsTermOver fs) es
    → AreAllOver fs cs → AreAllOver fs (map (sides_under es) cs)
under_all fs es cs h k e c =
    let found = contained_in_map (sides_under es) cs e c in
    subst (AreSidesOver fs) found.2 (sides_under_over fs es found.0 h (k found.0 found.1))

matched_over : (fs : List PlainOperator) (e : Sides) (cs : List Sides) (o : Option (List Entry)) (found : List Sides)
    → AreAllOver fs cs → ((es : List Entry) → o ≡ Some es → AreBound (IsTermOver fs) es)
    → option_map (λ es. map (sides_under es) cs) o ≡ Some found → AreAllOver fs found
matched_over fs e cs None found h b q = cc
matched_over fs e cs (Some es) found h b q =
    subst (AreAllOver fs) (some_same q) (under_all fs es cs (b es refl) h)

by_given : (fs : List PlainOperator) (givens : List Sides) (cs : List Sides) (e : Sides) (found : List Sides)
    → AreAllOver fs cs → AreSidesOver fs e
    → (elim givens [ [] ↦ None | given ∷ others ↦ option_map (λ es. map (sides_under es) cs) (matched_sides given e) ])
    ≡ Some found → AreAllOver fs found
by_given fs [] cs e found h k q = cc
by_given fs (given ∷ others) cs e found h k q =
    matched_over fs e cs (matched_sides given e) found h
    (λ es m. both_matched fs given e (match_term given.left e.left []) es k refl m) q

first_over : (fs : List PlainOperator) (o : Option (List Sides)) (next : Option (List Sides)) (found : List Sides)
    → (o ≡ Some found → AreAllOver fs found) → (next ≡ Some found → AreAllOver fs found)
    → (elim o [ None ↦ next | Some cs ↦ Some cs ]) ≡ Some found → AreAllOver fs found
first_over fs None next found one others h = others h
first_over fs (Some cs) next found one others h = one h

consequences_over : (fs : List PlainOperator) (rows : List PlainRow) (e : Sides) (found : List Sides)
    → AreRowsOver fs rows → AreSidesOver fs e → first_consequences rows e ≡ Some found → AreAllOver fs found
consequences_over fs [] e found r h q = cc
consequences_over fs (row ∷ rows) e found r h q =
    first_over fs (consequences_by row e) (first_consequences rows e) found
    (λ k. by_given fs (sides_of row.given) (flat_map sides_of row.consequences) e found r.0 h k)
    (λ k. consequences_over fs rows e found r.1 h k) q

deduced_over : (fs : List PlainOperator) (e : Sides) (found : List Sides) → AreSidesOver fs e → deduce e ≡ Some found
    → AreAllOver fs found
deduced_over fs e found h q =
    consequences_over fs (deduction_rows (sort_within e.left)) e found (rows_over fs (sort_within e.left)) h q

-- ---- the rule that an equation makes

flipped_over : (fs : List PlainOperator) (e : Sides) → AreSidesOver fs e → AreSidesOver fs (flip e)
flipped_over fs e h = (h.1, h.0, sym h.2)

pub equality_over : (fs : List PlainOperator) (e : Sides) → AreSidesOver fs e
    → IsTermOver fs (equality (sort_of e.left) e.left e.right)
equality_over fs e h = (
  (ap (λ s. sort_of e.left ∷ s ∷ []) (sym h.2), (h.0.0, (h.1.0, tt))),
  (inr (Equal, (sort_of e.left, refl)), (h.0.1, (h.1.1, tt))),
)

pub equivalence_over : (fs : List PlainOperator) (e : Sides) → AreSidesOver fs e → sort_of e.left ≡ bool_sort
    → IsTermOver fs (equivalence e.left e.right)
equivalence_over fs e h s = (
  (ap₂ (λ p q. p ∷ q ∷ []) s (sym h.2 ∙ s), (h.0.0, (h.1.0, tt))),
  (inr (Iff, (bool_sort, refl)), (h.0.1, (h.1.1, tt))),
)

equated_over : (fs : List PlainOperator) (e : Sides) → AreSidesOver fs e
    → AreSidesOver fs (record { left = equality_term e; right = truth })
equated_over fs e h =
    by_sort (bytes_eq (sort_of e.left) bool_sort) (bytes_eq-Decides (sort_of e.left) bool_sort).0
  where
    by_sort : (b : Bool) → (b ≡ true → sort_of e.left ≡ bool_sort)
        → AreSidesOver fs (record {
          left = cond b (equivalence e.left e.right) (equality (sort_of e.left) e.left e.right);
          right = truth;
        })
    by_sort true s = (equivalence_over fs e h (s refl), truth_over fs, refl)
    by_sort false s = (equality_over fs e h, truth_over fs, refl)

oriented_over : (fs : List PlainOperator) (ranks : List Ranked) (e : Sides) → AreSidesOver fs e
    → AreSidesOver fs (orient ranks e)
oriented_over fs ranks e h = by_order (greater ranks e.left e.right) (greater ranks e.right e.left)
  where
    by_order : (l r : Bool)
        → AreSidesOver fs (cond l e (cond r (flip e) (record { left = equality_term e; right = truth })))
    by_order true r = h
    by_order false true = flipped_over fs e h
    by_order false false = equated_over fs e h

-- what becomes of an equation is well sorted
abbrev IsTreatmentOver : List PlainOperator → Treatment → Type 0
IsTreatmentOver fs Drop = Unit {0}
IsTreatmentOver fs Contradict = Unit {0}
IsTreatmentOver fs (Replace others) = AreAllOver fs others
IsTreatmentOver fs (Keep rule) = AreSidesOver fs rule

replaced_over : (fs : List PlainOperator) (ranks : List Ranked) (e : Sides) (o : Option (List Sides))
    → AreSidesOver fs e → ((found : List Sides) → o ≡ Some found → AreAllOver fs found)
    → IsTreatmentOver fs (replaced_or_kept ranks e o)
replaced_over fs ranks e None h k = oriented_over fs ranks e h
replaced_over fs ranks e (Some found) h k = k found refl

treated_over : (fs : List PlainOperator) (ranks : List Ranked) (e : Sides) → AreSidesOver fs e
    → IsTreatmentOver fs (treatment_of ranks e)
treated_over fs ranks e h = by_value (is_value e.left)
  where
    by_value : (v : Bool)
        → IsTreatmentOver fs (elim v [ true ↦ Contradict | false ↦ replaced_or_kept ranks e (deduce e) ])
    by_value true = tt
    by_value false = replaced_over fs ranks e (deduce e) h (λ found q. deduced_over fs e found h q)

turned_over : (fs : List PlainOperator) (e : Sides) → AreSidesOver fs e → AreSidesOver fs (truth_to_right e)
turned_over fs e h = by_test (is_value e.left && not (is_value e.right))
  where
    by_test : (t : Bool) → AreSidesOver fs (cond t (flip e) e)
    by_test true = flipped_over fs e h
    by_test false = h

treatment_over : (fs : List PlainOperator) (ranks : List Ranked) (e : Sides) → AreSidesOver fs e
    → IsTreatmentOver fs (treatment ranks e)
treatment_over fs ranks e h = by_test (same_tree e.left e.right)
  where
    by_test : (t : Bool) → IsTreatmentOver fs (elim t [ true ↦ Drop | false ↦ treatment_of ranks (truth_to_right e) ])
    by_test true = tt
    by_test false = treated_over fs ranks (truth_to_right e) (turned_over fs e h)

-- ---- adding

serving_over : (fs : List PlainOperator) (manner : Manner) (facts : Facts) → AreFactsOver fs facts.rules
    → All (AreSidesOver fs) (serving manner facts)
serving_over fs manner facts h =
    all_from (AreSidesOver fs) (serving manner facts) (λ e c.
    let found = contained_in_map (λ (fact : Fact). fact.sides) (filter manner.serves facts.rules) e c in
    let kept = contained_in_filter manner.serves facts.rules found.0 found.1 in
    subst (AreSidesOver fs) found.2 (at_contained facts.rules found.0 h kept.0))
  where
    at_contained : (rules : List Fact) (fact : Fact) → All (λ f. AreSidesOver fs f.sides) rules → Contains rules fact
        → AreSidesOver fs fact.sides
    at_contained rules fact k c = subst (λ f. AreSidesOver fs f.sides) c.2 (k c.0 fact c.1)

pub made_term : {A : Type 0} {p q : A} {n m : ℕ} → Made p n ≡ Made q m → p ≡ q
made_term e = cc

normal_sides_over : (fs : List PlainOperator) (rules : List Sides) (e d : Sides) (n m : ℕ) → All (AreSidesOver fs) rules
    → AreSidesOver fs e → normal_sides rules e n ≡ Made d m → AreSidesOver fs d
normal_sides_over fs rules e d n m r h q = by_left (normal rules e.left n) refl q
  where
    by_right : (l : Tree) (w : Work Tree) (c : ℕ) → IsTermOver fs l × (sort_of l ≡ sort_of e.left)
        → normal rules e.right c ≡ w
        → then_work w (λ v k. Made (record { left = l; right = v }) k) ≡ Made d m → AreSidesOver fs d
    by_right l (Made v k) c g p i =
        let right = normal_keeps fs rules e.right c v k r h.1 p in
        subst (AreSidesOver fs) (made_term i) (g.0, right.0, g.1 ∙ (h.2 ∙ sym right.1))
    by_right l OverLimit c g p i = cc
    by_right l OverSize c g p i = cc

    by_left : (w : Work Tree) → normal rules e.left n ≡ w
        → then_work w (λ l c. then_work (normal rules e.right c) (λ v k. Made (record { left = l; right = v }) k))
        ≡ Made d m → AreSidesOver fs d
    by_left (Made l c) p i = by_right l (normal rules e.right c) c (normal_keeps fs rules e.left n l c r h.0 p) refl i
    by_left OverLimit p i = cc
    by_left OverSize p i = cc

-- facts with a rule more
with_rule_over : (fs : List PlainOperator) (name : FactName) (part : ℕ) (rule : Sides) (facts : Facts)
    → AreFactsOver fs facts.rules → AreSidesOver fs rule → AreFactsOver fs (with_rule name part rule facts).rules
with_rule_over fs name part rule facts h k =
    All-push (λ fact. AreSidesOver fs fact.sides) facts.rules
    (record { name = record name { part = part }; sides = rule })
    h k

pub within_made : {A : Type 0} (large : Bool) (w : Work A) (p : A) (r : ℕ) → within_size large w ≡ Made p r
    → w ≡ Made p r
within_made true w p r h = cc
within_made false w p r h = h

-- equations before others
append_over : (fs : List PlainOperator) (es ds : List Sides) → AreAllOver fs es → AreAllOver fs ds
    → AreAllOver fs (es ++ ds)
append_over fs [] ds h k d c = k d c
append_over fs (e ∷ es) ds h k d c = elim (contains_cases e d (es ++ ds) c) [
  | inl q ↦ subst (AreSidesOver fs) q (h e (contains_here e es))
  | inr n ↦ append_over fs es ds (λ f i. h f (contains_later e f es i)) k d n
]

-- an adding of these equations to these facts keeps sorts
abbrev AddsOver : List PlainOperator → (ℕ → List Sides → Facts → ℕ → Work Facts) → Type 0
AddsOver fs adds = (part : ℕ) (waiting : List Sides) (facts : Facts) (b : ℕ) (made : Facts) (r : ℕ)
    → AreFactsOver fs facts.rules → AreAllOver fs waiting → adds part waiting facts b ≡ Made made r
    → AreFactsOver fs made.rules

by_treatment : (fs : List PlainOperator) (n : ℕ) (manner : Manner) (part : ℕ) (waiting : List Sides) (facts : Facts)
    (c : ℕ) (made : Facts) (r : ℕ) (t : Treatment) → AddsOver fs (add_waiting n manner) → AreFactsOver fs facts.rules
    → AreAllOver fs waiting → IsTreatmentOver fs t
    → (elim t [
      | Drop ↦ add_waiting n manner part waiting facts c
      | Contradict ↦ add_waiting n manner part waiting (with_contradiction facts) c
      | Replace others ↦ add_waiting n manner part (others ++ waiting) facts c
      | Keep rule ↦ within_size (is_large rule.left || is_full facts)
          (add_waiting n manner (suc part) waiting (with_rule manner.name (suc part) rule facts) c)
    ]) ≡ Made made r
    → AreFactsOver fs made.rules
by_treatment fs n manner part waiting facts c made r Drop go f w t h = go part waiting facts c made r f w h
by_treatment fs n manner part waiting facts c made r Contradict go f w t h =
    go part waiting (with_contradiction facts) c made r f w h
by_treatment fs n manner part waiting facts c made r (Replace others) go f w t h =
    go part (others ++ waiting) facts c made r f (append_over fs others waiting t w) h
by_treatment fs n manner part waiting facts c made r (Keep rule) go f w t h =
    go (suc part) waiting (with_rule manner.name (suc part) rule facts) c made r
    (with_rule_over fs manner.name (suc part) rule facts f t) w
    (within_made (is_large rule.left || is_full facts)
    (add_waiting n manner (suc part) waiting (with_rule manner.name (suc part) rule facts) c) made r h)

by_sides : (fs : List PlainOperator) (n : ℕ) (manner : Manner) (part : ℕ) (waiting : List Sides) (facts : Facts)
    (made : Facts) (r : ℕ) (w : Work Sides) → AddsOver fs (add_waiting n manner) → AreFactsOver fs facts.rules
    → AreAllOver fs waiting → ((d : Sides) (c : ℕ) → w ≡ Made d c → AreSidesOver fs d)
    → then_work w (λ found c. elim (treatment manner.ranks found) [
      | Drop ↦ add_waiting n manner part waiting facts c
      | Contradict ↦ add_waiting n manner part waiting (with_contradiction facts) c
      | Replace others ↦ add_waiting n manner part (others ++ waiting) facts c
      | Keep rule ↦ within_size (is_large rule.left || is_full facts)
          (add_waiting n manner (suc part) waiting (with_rule manner.name (suc part) rule facts) c)
    ]) ≡ Made made r
    → AreFactsOver fs made.rules
by_sides fs n manner part waiting facts made r (Made d c) go f w s h =
    by_treatment fs n manner part waiting facts c made r (treatment manner.ranks d) go f w
    (treatment_over fs manner.ranks d (s d c refl)) h
by_sides fs n manner part waiting facts made r OverLimit go f w s h = cc
by_sides fs n manner part waiting facts made r OverSize go f w s h = cc

add_waiting_over : (fs : List PlainOperator) (n : ℕ) (manner : Manner) → AddsOver fs (add_waiting n manner)
add_waiting_over fs zero manner part waiting facts b made r f w h = cc
add_waiting_over fs (suc n) manner part [] facts b made r f w h =
    subst (λ (k : Facts). AreFactsOver fs k.rules) (made_term h) f
add_waiting_over fs (suc n) manner part (e ∷ waiting) facts b made r f w h =
    by_sides fs n manner part waiting facts made r (normal_sides (serving manner facts) e b)
    (add_waiting_over fs n manner) f
    (λ d c. w d (contains_later e d waiting c))
    (λ d c q. normal_sides_over fs (serving manner facts) e d b c (serving_over fs manner facts f)
    (w e (contains_here e waiting)) q) h

-- where the facts and an equation are well sorted over operators, so are the facts behind its adding
pub add_over : (fs : List PlainOperator) (manner : Manner) (e : Sides) (facts : Facts) (b : ℕ) (made : Facts) (r : ℕ)
    → All (λ fact. AreSidesOver fs fact.sides) facts.rules → AreSidesOver fs e → add manner e facts b ≡ Made made r
    → All (λ fact. AreSidesOver fs fact.sides) made.rules
unfolding add
add_over fs manner e facts b made r f s h =
    add_waiting_over fs (most_taken b) manner 0 (e ∷ []) facts b made r f (one_over fs e s)
    (within_made _ (add_waiting (most_taken b) manner 0 (e ∷ []) facts b) made r h)
