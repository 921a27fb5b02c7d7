-- Two boxes, in one of which a formula is supposed to be true and in the other to be false, show what both show.
use Rattle.std.proofs.Common.{◌≡◌, inr, ℕ, true, List, [], ◌∷◌, ◌++◌, map, Some, None, ◌&&◌, refl, sym, ◌∙◌, ap, subst}
use Rattle.std.specs.Option.{option_map, option_or, option_and_then}
use Rattle.std.specs.Cmp.Lexicographic.{pointwise}
use Rattle.std.proofs.lemmas.Bool.{cond-true}
use Rattle.std.proofs.lemmas.List.{append-nil}
use Rattle.std.proofs.lemmas.Slice.Eq.{slice_eq-Decides}
use Rattle.larch_base.proofs.Bools.{and_both}
use Rattle.larch_term.specs.BuiltIn.{built_in, bool_sort}
use Rattle.larch_term.specs.Equality.{same_statement}
use Rattle.larch_term.specs.Operator.{PlainOperator}
use Rattle.larch_term.specs.Statement.{IsStatementOver}
use Rattle.larch_term.specs.Tree.{Tree, app, none}
use Rattle.larch_term.specs.Truth.{truth}
use Rattle.larch_term.specs.Variable.{occurrences}
use Rattle.larch_term.specs.declared.built_in.BuiltIn.TheVariants.{True, False}
use Rattle.larch_term.specs.declared.statement.Statement.{Statement}
use Rattle.larch_term.specs.declared.statement.Statement.TheVariants.{Equation}
use Rattle.larch_term.specs.declared.statement.Theory.{Theory}
use Rattle.larch_term.proofs.Decided.{statement_Decides}
use Rattle.larch_verify_law.specs.RenamingRenaming.{renamed_variable}
use Rattle.larch_verify_law.proofs.RenamingRenamed.{renamed_occurrences}
use Rattle.larch_verify_law.proofs.RenamingRenamedStatements.{statement_alike}
use Rattle.larch_verify_law.specs.CalculusFormula.{falsity}
use Rattle.larch_certificate.specs.declared.line.Line.{Line}
use Rattle.larch_certificate.specs.declared.line.Line.TheVariants.{Cases}
use Rattle.larch_verify_law.specs.VerifyMeaningBoxRules.{cases_of, supposes}
use Rattle.larch_verify_law.specs.VerifyMeaningContext.{theory_of, find_closed}
use Rattle.larch_verify_law.specs.VerifyMeaningEvents.{PlainBox, State, operators_from}
use Rattle.larch_verify_law.specs.VerifyMeaningMatching.{is_empty, same_statements}
use Rattle.larch_verify_law.specs.VerifyMeaningRun.{judge}
use Rattle.larch_derive.specs.declared.builder.Builder.{Builder}
use Rattle.larch_derive.specs.declared.open_box.OpenBox.{OpenBox}
use Rattle.larch_derive.specs.Builder.{IsPushed, part_for}
use Rattle.larch_derive.specs.OpenBox.{place_from, constant_of, naming}
use Rattle.larch_derive.specs.Predicates.{operators_at, written_term, written_statement, StandIn, HasStatement, Extends}
use Rattle.larch_derive.proofs.Pushing.{pushed_says, pushed_extends, one_state}
use Rattle.larch_derive.proofs.Unchanged.{own_in_lines}
use Rattle.larch_derive_boxes.specs.Boxes.{box_of, operators_inside, ResultIn, HasResult}
use Rattle.larch_derive_boxes.proofs.Renaming.{same_name}

-- ---- a box without constants

no_more : (bs : List OpenBox) (x : OpenBox) (f : PlainOperator) → x.constants ≡ []
    → constant_of (bs ++ x ∷ []) f ≡ constant_of bs f
no_more [] x f e = ap (λ cs. option_or (option_map (λ k. (x.number, k)) (place_from 1 cs f)) None) e
no_more (b ∷ bs) x f e =
    ap (option_or (option_map (λ k. (b.number, k)) (place_from 1 b.constants f))) (no_more bs x f e)

same_written : (bs : List OpenBox) (x : OpenBox) (s : Statement) → x.constants ≡ []
    → written_statement (bs ++ x ∷ []) s ≡ written_statement bs s
same_written bs x s e =
    statement_alike (naming (bs ++ x ∷ [])) (naming bs)
    (record { sorts = λ z. refl; operators = λ f. same_name (bs ++ x ∷ []) bs f (no_more bs x f e) }) s

over_outside : (t : Theory) (st : State) (bs : List OpenBox) (x : OpenBox) (s : Statement) → x.constants ≡ []
    → IsStatementOver (operators_inside t st.history x) (written_statement (bs ++ x ∷ []) s)
    → IsStatementOver (operators_at t st) (written_statement bs s)
over_outside t st bs x s e w =
    subst (IsStatementOver (operators_at t st)) (same_written bs x s e)
    (subst (λ fs. IsStatementOver fs (written_statement (bs ++ x ∷ []) s))
    (ap (λ cs. (theory_of t st.history).operators ++ operators_from x.number 1 (map part_for cs)) e
    ∙ append-nil (theory_of t st.history).operators) w)

-- ---- what such boxes are

-- a box without parts and with one equation as its hypothesis
abbrev Supposing : ℕ → Tree → Tree → PlainBox
Supposing n f v = record { number = n; parts = []; hypotheses = Equation f v ∷ [] }

result_is : (t : Theory) (bs : List OpenBox) (st : State) (x : OpenBox) (f v : Tree) (s : Statement) → x.constants ≡ []
    → written_term bs v ≡ v
    → find_closed st.history x.number
    ≡ Some (box_of x (map (written_statement (bs ++ x ∷ [])) (Equation f v ∷ [])), written_statement (bs ++ x ∷ []) s)
    → find_closed st.history x.number ≡ Some (Supposing x.number (written_term bs f) v, written_statement bs s)
result_is t bs st x f v s e d r =
    let h : written_statement (bs ++ x ∷ []) (Equation f v) ≡ Equation (written_term bs f) v =
    same_written bs x (Equation f v) e ∙ ap (Equation (written_term bs f)) d in
    let w = same_written bs x s e in
    r ∙ (λ i. Some (record { number = x.number; parts = map part_for (e i); hypotheses = h i ∷ [] }, w i))

same_alone : (s : Statement) → same_statements (s ∷ []) (s ∷ []) ≡ true
same_alone s =
    (slice_eq-Decides statement_Decides (s ∷ []) (s ∷ []) (pointwise same_statement (s ∷ []) (s ∷ [])) refl).1 refl

empty_is : {X : Type 0} (xs : List X) → xs ≡ [] → is_empty xs ≡ true
empty_is xs e = ap is_empty e

cases_at : (n k : ℕ) (f l r : Tree) → occurrences f ≡ []
    → cases_of (Supposing n f truth, Equation l r) (Supposing k f falsity, Equation l r) ≡ Some (Equation l r)
cases_at n k f l r e =
    cond-true (supposes (Supposing n f truth) f truth && (supposes (Supposing k f falsity) f falsity
    && (is_empty (occurrences f) && same_statement (Equation l r) (Equation l r)))) (Some (Equation l r)) None
    (and_both (supposes (Supposing n f truth) f truth) (supposes (Supposing k f falsity) f falsity
    && (is_empty (occurrences f) && same_statement (Equation l r) (Equation l r))) (same_alone (Equation f truth))
    (and_both (supposes (Supposing k f falsity) f falsity) (is_empty (occurrences f)
    && same_statement (Equation l r) (Equation l r)) (same_alone (Equation f falsity))
    (and_both (is_empty (occurrences f)) (same_statement (Equation l r) (Equation l r)) (empty_is (occurrences f) e)
    ((statement_Decides (Equation l r) (Equation l r)).1 refl))))

truth_written : (t : Theory) (bs : List OpenBox) (ls : List Line) (st : State) → StandIn t bs ls st
    → written_term bs truth ≡ truth
truth_written t bs ls st h =
    ap (λ f. app f none) (own_in_lines t bs (built_in True bool_sort) h.plain h.others (inr (True, (bool_sort, refl))))

falsity_written : (t : Theory) (bs : List OpenBox) (ls : List Line) (st : State) → StandIn t bs ls st
    → written_term bs falsity ≡ falsity
falsity_written t bs ls st h =
    ap (λ f. app f none) (own_in_lines t bs (built_in False bool_sort) h.plain h.others
    (inr (False, (bool_sort, refl))))

cases_judged : (a : Builder) (st : State) (x y : OpenBox) (f l r : Tree)
    → ResultIn a.theory a.boxes a.lines st x (Equation f truth ∷ []) (Equation l r)
    → ResultIn a.theory a.boxes a.lines st y (Equation f falsity ∷ []) (Equation l r)
    → x.constants ≡ [] → y.constants ≡ [] → occurrences f ≡ []
    → judge a.theory st.history (Cases x.number y.number) ≡ Some (written_statement a.boxes (Equation l r))
cases_judged a st x y f l r g h d e v =
    let bs = a.boxes in
    let first =
    result_is a.theory bs st x f truth (Equation l r) d (truth_written a.theory bs a.lines st g.stand) g.result in
    let second = result_is a.theory bs st y f falsity (Equation l r) e
    (falsity_written a.theory bs a.lines st g.stand) h.result in
    ap (option_and_then (λ c. option_and_then (cases_of c) (find_closed st.history y.number))) first
    ∙ ap
    (option_and_then (cases_of (Supposing x.number (written_term bs f) truth, written_statement bs (Equation l r))))
    second
    ∙ cases_at x.number y.number (written_term bs f) (written_term bs l) (written_term bs r)
    (renamed_occurrences (naming bs) f ∙ ap (map (renamed_variable (naming bs))) v)

pub cases_says : (a b : Builder) (x y : OpenBox) (n : ℕ) (f l r : Tree) → IsPushed a b (Cases x.number y.number) n
    → HasResult a x (Equation f truth ∷ []) (Equation l r) → HasResult a y (Equation f falsity ∷ []) (Equation l r)
    → x.constants ≡ [] → y.constants ≡ [] → occurrences f ≡ [] → HasStatement b n (Equation l r)
unfolding HasResult
cases_says a b x y n f l r p (st, g) (su, k) d e v =
    let h = subst (λ z. ResultIn a.theory a.boxes a.lines z y (Equation f falsity ∷ []) (Equation l r))
    (one_state a.theory a.lines st su g.stand.runs k.stand.runs) k in
    pushed_says a b (Cases x.number y.number) n st (Equation l r) p g.stand (cases_judged a st x y f l r g h d e v)
    (over_outside a.theory st a.boxes x (Equation l r) d g.over) p.numbers g.words

pub cases_extends : (a b : Builder) (x y : OpenBox) (n : ℕ) (f l r : Tree) → IsPushed a b (Cases x.number y.number) n
    → HasResult a x (Equation f truth ∷ []) (Equation l r) → HasResult a y (Equation f falsity ∷ []) (Equation l r)
    → x.constants ≡ [] → y.constants ≡ [] → occurrences f ≡ [] → Extends a b
unfolding HasResult
cases_extends a b x y n f l r p (st, g) (su, k) d e v =
    let h = subst (λ z. ResultIn a.theory a.boxes a.lines z y (Equation f falsity ∷ []) (Equation l r))
    (one_state a.theory a.lines st su g.stand.runs k.stand.runs) k in
    pushed_extends a b (Cases x.number y.number) n st (written_statement a.boxes (Equation l r)) p g.stand.runs
    (cases_judged a st x y f l r g h d e v) p.numbers

-- the same, where the boxes' numbers are told
pub cases_line_says : (a b : Builder) (i j n : ℕ) (x y : OpenBox) (f l r : Tree) → IsPushed a b (Cases i j) n
    → x.number ≡ i → y.number ≡ j
    → HasResult a x (Equation f truth ∷ []) (Equation l r) → HasResult a y (Equation f falsity ∷ []) (Equation l r)
    → x.constants ≡ [] → y.constants ≡ [] → occurrences f ≡ [] → HasStatement b n (Equation l r)
cases_line_says a b i j n x y f l r p e d g h u v w =
    cases_says a b x y n f l r (subst (λ k. IsPushed a b (Cases x.number k) n) (sym d)
    (subst (λ k. IsPushed a b (Cases k j) n) (sym e) p)) g h u v w

pub cases_line_extends : (a b : Builder) (i j n : ℕ) (x y : OpenBox) (f l r : Tree) → IsPushed a b (Cases i j) n
    → x.number ≡ i → y.number ≡ j
    → HasResult a x (Equation f truth ∷ []) (Equation l r) → HasResult a y (Equation f falsity ∷ []) (Equation l r)
    → x.constants ≡ [] → y.constants ≡ [] → occurrences f ≡ [] → Extends a b
cases_line_extends a b i j n x y f l r p e d g h u v w =
    cases_extends a b x y n f l r (subst (λ k. IsPushed a b (Cases x.number k) n) (sym d)
    (subst (λ k. IsPushed a b (Cases k j) n) (sym e) p)) g h u v w
