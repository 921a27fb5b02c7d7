-- Lines that say that a sort is partitioned by operators.
use Rattle.std.proofs.Common.{◌≡◌, ◌+◌, ◌&&◌, inl, inr, ℕ, true, List, [], ◌∷◌, ◌++◌, map, All, Contains, Some, None}
use Rattle.std.proofs.Common.{bytes_eq, refl, sym, ◌∙◌, ap, subst}
use Rattle.std.specs.List.{slice_get, list_all, list_any}
use Rattle.std.specs.Option.{option_and_then}
use Rattle.std.proofs.lemmas.Bool.{cond-true}
use Rattle.std.proofs.lemmas.List.Elements.{All-head, All-tail, All-contains}
use Rattle.std.proofs.lemmas.Slice.Eq.{bytes_eq-Decides}
use Rattle.larch_base.proofs.Bools.{and_both, or_left, or_right}
use Rattle.larch_base.proofs.Lists.{all_from}
use Rattle.larch_base.proofs.Members.{contains_cases, contains_none, got_contains}
use Rattle.larch_term.specs.Equality.{same_statement}
use Rattle.larch_term.specs.Operator.{PlainOperator}
use Rattle.larch_term.specs.Sorts.{IsKnown}
use Rattle.larch_term.specs.Statement.{IsStatementOver}
use Rattle.larch_term.specs.declared.statement.Statement.TheVariants.{Equation, Partitioned}
use Rattle.larch_term.specs.declared.statement.Theory.{Theory}
use Rattle.larch_derive_boxes.specs.CalculusFormula.{constant}
use Rattle.larch_derive_boxes.specs.CalculusGeneration.{place_name}
use Rattle.larch_derive_boxes.specs.CalculusObservation.{observations}
use Rattle.larch_derive_boxes.proofs.CalculusRenamedHypotheses.{observations_renamed}
use Rattle.larch_certificate.specs.declared.line.Line.TheVariants.{Partitioned as PartitionedLine}
use Rattle.larch_derive_boxes.specs.CertificateTextLineText.{IsWord}
use Rattle.larch_derive_boxes.specs.VerifyMeaningClauseRules.{own_operators, partitioned_by}
use Rattle.larch_derive_boxes.specs.VerifyMeaningEvents.{State, box_constant, part_operator}
use Rattle.larch_derive_boxes.specs.VerifyMeaningLastLine.{EndsWithoutStatedClause}
use Rattle.larch_derive_boxes.specs.VerifyMeaningMatching.{same_statements, has_constants}
use Rattle.larch_derive_boxes.specs.VerifyMeaningRun.{judge}
use Rattle.larch_derive_boxes.specs.DeriveBuilderBuilder.{Builder}
use Rattle.larch_derive_boxes.specs.DeriveOpen_boxOpenBox.{OpenBox}
use Rattle.larch_derive_boxes.specs.DeriveBuilder.{IsPushed}
use Rattle.larch_derive_boxes.specs.DeriveOpenBox.{in_lines, naming}
use Rattle.larch_derive_boxes.specs.DerivePredicates.{written_statement, HasStatement, Extends}
use Rattle.larch_derive_boxes.proofs.DeriveAccepting.{pushed_ends}
use Rattle.larch_derive_boxes.proofs.DerivePushing.{own_says, pushed_extends}
use Rattle.larch_derive_boxes.proofs.DeriveUnchanged.{own_operators_written}
use Rattle.larch_derive_boxes.specs.Boxes.{box_of, ResultIn, HasResult, AreOwnConstants}
use Rattle.larch_derive_boxes.proofs.Freshness.{own_named, has_sorts, sort_of_part}
use Rattle.larch_derive_clauses.specs.Showing.{ShowsPartitioned}
use Rattle.larch_derive_clauses.proofs.Generation.{numbered_own, own_worded}
use Rattle.larch_derive_clauses.proofs.Written.{inside_faithful, inside_others, found_by, statements_same}
use Rattle.larch_derive_clauses.proofs.Written.{statement_same}

-- ---- operators

partitioned_over : (t : Theory) (s : List ℕ) (os : List PlainOperator) → All (λ o. Contains t.operators o) os
    → All (λ o. Contains o.domain s) os → IsStatementOver t.operators (Partitioned s os)
partitioned_over t s os own domains =
    all_from (λ g. IsKnown t.operators g × Contains g.domain s) os
    (λ o m. (
      inl (All-contains (λ o. Contains t.operators o) os o own m),
      All-contains (λ o. Contains o.domain s) os o domains m,
    ))

has_sort : (s : List ℕ) (ss : List (List ℕ)) → Contains ss s → list_any (bytes_eq s) ss ≡ true
has_sort s [] c = absurd (contains_none s c)
has_sort s (r ∷ rs) c =
    elim (contains_cases r s rs c) [
      | inl e ↦ or_left (bytes_eq s r) (list_any (bytes_eq s) rs) ((bytes_eq-Decides s r).1 (sym e))
      | inr d ↦ or_right (bytes_eq s r) (list_any (bytes_eq s) rs) (has_sort s rs d)
    ]

domains_pass : (s : List ℕ) (os : List PlainOperator) → All (λ o. Contains o.domain s) os
    → list_all (λ o. list_any (bytes_eq s) o.domain) os ≡ true
domains_pass s [] h = refl
domains_pass s (o ∷ os) h =
    and_both (list_any (bytes_eq s) o.domain) (list_all (λ o. list_any (bytes_eq s) o.domain) os)
    (has_sort s o.domain (All-head (λ o. Contains o.domain s) o os h))
    (domains_pass s os (All-tail (λ o. Contains o.domain s) o os h))

-- ---- the constants as lines write them

constant_named : (bs : List OpenBox) (x : OpenBox) (i : ℕ) (c : PlainOperator) (s : List ℕ) → AreOwnConstants bs x
    → slice_get x.constants i ≡ Some c → c.range ≡ s
    → in_lines (bs ++ x ∷ []) c ≡ box_constant x.number (1 + i) s
constant_named bs x i c s own e r =
    let d = All-contains (λ f. f.domain ≡ []) x.constants c own.constants (got_contains x.constants i c e) in
    sym (own_named bs x own i c e)
    ∙ ap (part_operator x.number (1 + i)) (sort_of_part c d)
    ∙ ap (box_constant x.number (1 + i)) r

-- ---- partitioned

partitioned_judged : (a : Builder) (st : State) (s : List ℕ) (ks : List ℕ) (os : List PlainOperator) (n : ℕ)
    (c : ShowsPartitioned a s os n)
    → ResultIn a.theory a.boxes a.lines st c.box (observations place_name s os (constant c.first) (constant c.second))
    (Equation (constant c.first) (constant c.second))
    → own_operators a.theory ks ≡ Some os → All (λ o. Contains o.domain s) os
    → judge a.theory st.history (PartitionedLine n s ks) ≡ Some (Partitioned s os)
partitioned_judged a st s ks os n c res own domains =
    let x = c.box in
    let xs = a.boxes ++ x ∷ [] in
    let hs = observations place_name s os (constant c.first) (constant c.second) in
    let e = Equation (constant c.first) (constant c.second) in
    let ws = map (written_statement xs) hs in
    let w = written_statement xs e in
    let faithful = inside_faithful a st x hs e res in
    let f = box_constant x.number 1 s in
    let g = box_constant x.number 2 s in
    let first : in_lines xs c.first ≡ f =
    constant_named a.boxes x 0 c.first s c.own (ap (λ cs. slice_get cs 0) c.two) c.first_sort in
    let second : in_lines xs c.second ≡ g =
    constant_named a.boxes x 1 c.second s c.own (ap (λ cs. slice_get cs 1) c.two) c.second_sort in
    let theirs = own_operators_written a.theory xs res.stand.plain (inside_others a st x hs e res) os
    (numbered_own a.theory ks os own) in
    let gs = observations place_name s os (constant f) (constant g) in
    let supposed : ws ≡ gs =
    observations_renamed (naming xs) faithful place_name s os (constant c.first) (constant c.second)
    ∙ (λ i. observations place_name s (theirs i) (constant (first i)) (constant (second i))) in
    let equal : w ≡ Equation (constant f) (constant g) = λ i. Equation (constant (first i)) (constant (second i)) in
    let two = has_constants (box_of x ws) (s ∷ s ∷ []) in
    let tests = same_statements ws gs && same_statement w (Equation (constant f) (constant g)) in
    let pass = list_all (λ o. list_any (bytes_eq s) o.domain) os in
    ap (option_and_then (λ d. option_and_then (partitioned_by s d) (own_operators a.theory ks)))
    (found_by a st x hs e n res c.number)
    ∙ ap (option_and_then (partitioned_by s (box_of x ws, w))) own
    ∙ cond-true (pass && (two && tests)) (Some (Partitioned s os)) None
    (and_both pass (two && tests) (domains_pass s os domains)
    (and_both two tests
    (has_sorts x ws (s ∷ s ∷ []) c.own.constants
    (ap (map (λ c. c.range)) c.two ∙ (λ i. c.first_sort i ∷ c.second_sort i ∷ [])))
    (and_both (same_statements ws gs) (same_statement w (Equation (constant f) (constant g)))
    (statements_same ws gs supposed) (statement_same w (Equation (constant f) (constant g)) equal))))

pub partitioned_says : (a b : Builder) (k n : ℕ) (s : List ℕ) (ks : List ℕ) (os : List PlainOperator)
    → IsPushed a b (PartitionedLine k s ks) n → own_operators a.theory ks ≡ Some os
    → All (λ o. Contains o.domain s) os → ShowsPartitioned a s os k → HasStatement b n (Partitioned s os)
unfolding HasResult
partitioned_says a b k n s ks os p own domains c =
    let res = c.shown.1 in
    own_says a b (PartitionedLine k s ks) n c.shown.0 (Partitioned s os) p res.stand
    (partitioned_judged a c.shown.0 s ks os k c res own domains)
    (partitioned_over a.theory s os (numbered_own a.theory ks os own) domains)
    (p.numbers.0, (subst IsWord c.first_sort res.words.0.0.1, p.numbers.1)) (
      subst IsWord c.first_sort res.words.0.0.1,
      own_worded a.theory os res.stand.worded (numbered_own a.theory ks os own),
    )

pub partitioned_extends : (a b : Builder) (k n : ℕ) (s : List ℕ) (ks : List ℕ) (os : List PlainOperator)
    → IsPushed a b (PartitionedLine k s ks) n → own_operators a.theory ks ≡ Some os
    → All (λ o. Contains o.domain s) os → ShowsPartitioned a s os k → Extends a b
unfolding HasResult
partitioned_extends a b k n s ks os p own domains c =
    let res = c.shown.1 in
    pushed_extends a b (PartitionedLine k s ks) n c.shown.0 (Partitioned s os) p res.stand.runs
    (partitioned_judged a c.shown.0 s ks os k c res own domains)
    (p.numbers.0, (subst IsWord c.first_sort res.words.0.0.1, p.numbers.1))

-- such a line isn't an axiom line
pub partitioned_ends : (a b : Builder) (k n : ℕ) (s : List ℕ) (ks : List ℕ) → IsPushed a b (PartitionedLine k s ks) n
    → EndsWithoutStatedClause b.theory b.lines
partitioned_ends a b k n s ks p = pushed_ends a b (PartitionedLine k s ks) n p refl
