-- What rules take, as lines write it.
use Rattle.std.proofs.Common.{◌≡◌, ◌+◌, ℕ, suc, true, List, [], ◌∷◌, ◌++◌, map, All, Some, refl, sym, ◌∙◌, ap, subst}
use Rattle.std.proofs.Common.{arith}
use Rattle.std.specs.Option.{option_and_then}
use Rattle.std.specs.Cmp.Lexicographic.{pointwise}
use Rattle.std.proofs.lemmas.List.Elements.{All-push}
use Rattle.std.proofs.lemmas.Slice.Eq.{slice_eq-Decides}
use Rattle.larch_term.specs.Equality.{same_statement}
use Rattle.larch_term.specs.Operator.{PlainOperator}
use Rattle.larch_term.specs.Sorts.{sort_of}
use Rattle.larch_term.specs.Statement.{IsStatementOver}
use Rattle.larch_term.specs.Tree.{Tree}
use Rattle.larch_term.specs.declared.statement.Statement.{Statement}
use Rattle.larch_term.specs.declared.statement.Statement.TheVariants.{Equation}
use Rattle.larch_term.proofs.Decided.{statement_Decides}
use Rattle.larch_derive_boxes.specs.CalculusRenaming.{IsFaithful}
use Rattle.larch_certificate.specs.declared.line.CodedEquation.{CodedEquation}
use Rattle.larch_derive_boxes.specs.CertificateTextEquationText.{FitEquation}
use Rattle.larch_derive_boxes.specs.VerifyMeaningContext.{find_symbol, find_closed}
use Rattle.larch_derive_boxes.specs.VerifyMeaningDecoding.{decode, decode_equation, equation_between}
use Rattle.larch_derive_boxes.specs.VerifyMeaningEvents.{State, operators_from, part_operator}
use Rattle.larch_derive_boxes.specs.VerifyMeaningMatching.{same_statements}
use Rattle.larch_derive_boxes.specs.DeriveBuilderBuilder.{Builder}
use Rattle.larch_derive_boxes.specs.DeriveWords.{IsWordedTerm}
use Rattle.larch_derive_boxes.proofs.DeriveWords.{term_fits}
use Rattle.larch_derive_boxes.specs.DeriveOpen_boxOpenBox.{OpenBox}
use Rattle.larch_derive_boxes.specs.DeriveBuilder.{IsCodeIn, part_for}
use Rattle.larch_derive_boxes.specs.DeriveOpenBox.{in_lines, naming}
use Rattle.larch_derive_boxes.specs.DerivePredicates.{AreOthers, operators_at, written_term}
use Rattle.larch_derive_boxes.specs.DerivePredicates.{written_statement, StandIn, KnownIn}
use Rattle.larch_derive_boxes.specs.DerivePredicates.{SaysIn, HasStatement}
use Rattle.larch_derive_boxes.proofs.DerivePushing.{means_at, one_state}
use Rattle.larch_derive_boxes.proofs.DeriveUnchanged.{naming_faithful}
use Rattle.larch_derive_boxes.specs.Boxes.{box_of, ResultIn, HasResult}
use Rattle.larch_derive_boxes.proofs.Freshness.{Named, sort_written}
use Rattle.larch_derive_boxes.proofs.Opening.{between}

-- ---- equations

pub equation_means : (a : Builder) (st : State) (l r : Tree) (e : CodedEquation)
    → KnownIn a.theory a.boxes a.lines st l → KnownIn a.theory a.boxes a.lines st r → sort_of l ≡ sort_of r
    → IsCodeIn a l e.left → IsCodeIn a r e.right
    → decode_equation (find_symbol a.theory st.history) e ≡ Some (written_statement a.boxes (Equation l r))
equation_means a st l r e kl kr s cl cr =
    let bs = a.boxes in
    ap (option_and_then (λ x. option_and_then (equation_between x) (decode (find_symbol a.theory st.history) e.right)))
    (means_at a st l e.left kl cl)
    ∙ ap (option_and_then (equation_between (written_term bs l))) (means_at a st r e.right kr cr)
    ∙ between (written_term bs l) (written_term bs r) (sort_written bs l ∙ s ∙ sym (sort_written bs r))

pub equation_known : (a : Builder) (st : State) (l r : Tree) → KnownIn a.theory a.boxes a.lines st l
    → KnownIn a.theory a.boxes a.lines st r → sort_of l ≡ sort_of r
    → IsStatementOver (operators_at a.theory st) (written_statement a.boxes (Equation l r))
equation_known a st l r kl kr s = (kl.over, kr.over, sort_written a.boxes l ∙ s ∙ sym (sort_written a.boxes r))

-- ---- one state

pub said_at : (a : Builder) (st : State) (n : ℕ) (s : Statement) → StandIn a.theory a.boxes a.lines st
    → HasStatement a n s → SaysIn a.theory a.boxes a.lines st n s
unfolding HasStatement
said_at a st n s h (su, k) =
    subst (λ z. SaysIn a.theory a.boxes a.lines z n s) (one_state a.theory a.lines st su h.runs k.stand.runs) k

pub result_at : (a : Builder) (st : State) (x : OpenBox) (hs : List Statement) (s : Statement)
    → StandIn a.theory a.boxes a.lines st → HasResult a x hs s → ResultIn a.theory a.boxes a.lines st x hs s
unfolding HasResult
result_at a st x hs s h (su, k) =
    subst (λ z. ResultIn a.theory a.boxes a.lines z x hs s) (one_state a.theory a.lines st su h.runs k.stand.runs) k

-- ---- closed boxes

-- what stands for constants where the box was open is neither the theory's nor built in
pub inside_others : (a : Builder) (st : State) (x : OpenBox) (hs : List Statement) (s : Statement)
    → ResultIn a.theory a.boxes a.lines st x hs s → All (λ y. AreOthers a.theory y.constants) (a.boxes ++ x ∷ [])
inside_others a st x hs s k = All-push (λ y. AreOthers a.theory y.constants) a.boxes x k.stand.others k.others

-- what lines make of the operators there
pub inside_faithful : (a : Builder) (st : State) (x : OpenBox) (hs : List Statement) (s : Statement)
    → ResultIn a.theory a.boxes a.lines st x hs s → IsFaithful (naming (a.boxes ++ x ∷ []))
inside_faithful a st x hs s k =
    naming_faithful a.theory (a.boxes ++ x ∷ []) k.stand.plain (inside_others a st x hs s k)

-- the closed box by its number
pub found_by : (a : Builder) (st : State) (x : OpenBox) (hs : List Statement) (s : Statement) (n : ℕ)
    → ResultIn a.theory a.boxes a.lines st x hs s → x.number ≡ n
    → find_closed st.history n
    ≡ Some (box_of x (map (written_statement (a.boxes ++ x ∷ [])) hs), written_statement (a.boxes ++ x ∷ []) s)
found_by a st x hs s n k e =
    let xs = a.boxes ++ x ∷ [] in
    subst (λ m. find_closed st.history m ≡ Some (box_of x (map (written_statement xs) hs), written_statement xs s)) e
    k.result

-- the constants of the box are its parts' operators
pub constants_named : (bs : List OpenBox) (n j : ℕ) (cs : List PlainOperator) → Named bs n j cs
    → map (in_lines bs) cs ≡ operators_from n j (map part_for cs)
constants_named bs n j [] h = refl
constants_named bs n j (c ∷ cs) h =
    let here : part_operator n j (part_for c) ≡ in_lines bs c =
    ap (λ k. part_operator n k (part_for c)) (let z : j ≡ j + 0 = omega arith in z) ∙ h 0 c refl in
    let rest = constants_named bs n (suc j) cs
    (λ i d e. ap (λ k. part_operator n k (part_for d)) (let z : suc j + i ≡ j + suc i = omega arith in z)
    ∙ h (suc i) d e) in
    λ i. sym here i ∷ rest i

pub statements_same : (ss rs : List Statement) → ss ≡ rs → same_statements ss rs ≡ true
statements_same ss rs e =
    (slice_eq-Decides statement_Decides ss rs (pointwise same_statement ss rs) refl).1 e

pub statement_same : (s r : Statement) → s ≡ r → same_statement s r ≡ true
statement_same s r e = (statement_Decides s r).1 e

-- what is written of an equation in words has a text
pub equation_fits : (a : Builder) (l r : Tree) (e : CodedEquation) → IsCodeIn a l e.left → IsCodeIn a r e.right
    → IsWordedTerm l → IsWordedTerm r → FitEquation e
equation_fits a l r e cl cr wl wr =
    (term_fits a.boxes a.theory.operators l e.left cl wl, term_fits a.boxes a.theory.operators r e.right cr wr)
