-- What rules say of clauses, they say moved of moved lines.
use Rattle.std.proofs.Common.{◌≡◌, ℕ, true, false, Bool, ◌&&◌, List, [], ◌∷◌, map, bytes_eq, Some}
use Rattle.std.proofs.Common.{refl, sym, ◌∙◌, ap, subst}
use Rattle.std.specs.List.{list_all, list_any}
use Rattle.std.specs.Option.{option_map_or}
use Rattle.std.proofs.lemmas.Option.{cond_some}
use Rattle.larch_base.proofs.Bools.{and_left, and_right, and_both}
use Rattle.larch_term.specs.Equality.{same_statement}
use Rattle.larch_term.specs.Operator.{PlainOperator}
use Rattle.larch_term.specs.Sorts.{sort_of}
use Rattle.larch_term.specs.Tree.{Tree, var}
use Rattle.larch_term.specs.Truth.{truth}
use Rattle.larch_term.specs.declared.statement.Statement.{Statement}
use Rattle.larch_term.specs.declared.statement.Statement.TheVariants.{Equation, Generated, Partitioned}
use Rattle.larch_term.specs.declared.statement.Theory.{Theory}
use Rattle.larch_verify_meaning.proofs.RenamingRenamed.{renamed_sort}
use Rattle.larch_verify_meaning.specs.RenamingRenaming.{Renaming, rename_tree, renamed_statement}
use Rattle.larch_verify_meaning.proofs.CalculusRenamed.{sort_test}
use Rattle.larch_verify_meaning.proofs.CalculusRenamedHypotheses.{truth_renamed, renamed_observation, observed_renamed}
use Rattle.larch_verify_meaning.proofs.CalculusRenamedHypotheses.{others_renamed, observations_of_renamed}
use Rattle.larch_verify_meaning.proofs.CalculusRenamedHypotheses.{observations_renamed}
use Rattle.larch_verify_meaning.proofs.CalculusRenamedHypotheses.{generation_renamed}
use Rattle.larch_verify_meaning.specs.CalculusFormula.{constant, apply_one}
use Rattle.larch_verify_meaning.specs.CalculusGeneration.{place_name, generation_hypotheses}
use Rattle.larch_verify_meaning.specs.CalculusObservation.{Observation, observations_of, observer_term}
use Rattle.larch_verify_meaning.specs.CalculusObservation.{other_variables, observations}
use Rattle.larch_verify_meaning.specs.CalculusRenaming.{IsFaithful}
use Rattle.larch_verify_meaning.specs.ClauseRules.{shows_same, show_same, observed_equal, holds_of_variable}
use Rattle.larch_verify_meaning.specs.ClauseRules.{shows_generated, generated_by, shows_partitioned, partitioned_by}
use Rattle.larch_verify_meaning.specs.Context.{find_line}
use Rattle.larch_verify_meaning.specs.Events.{PlainBox, box_constant, box_predicate, Event}
use Rattle.larch_verify_meaning.specs.Matching.{same_statements, are_apart, argument_name, has_constants}
use Rattle.larch_verify_meaning.specs.Matching.{is_predicate_on}
use Rattle.larch_verify_law.specs.Carrying.{IsEquation, IsMove}
use Rattle.larch_verify_law.specs.Moves.{Move, moved_box}
use Rattle.larch_verify_law.proofs.MovedRules.{moved_closed}
use Rattle.larch_verify_law.proofs.MovedTests.{same_bytes, is_same, are_same, chosen, all_mapped, all_alike, any_mapped}
use Rattle.larch_verify_law.proofs.MovedTests.{apart_moved, argument_moved, constant_moved, predicate_moved}
use Rattle.larch_verify_law.proofs.MovedTests.{constants_moved, predicates_moved, statements_moved, statement_moved}
use Rattle.larch_verify_law.proofs.Told.{map_or_true, bytes_told, statement_told}

-- observe: what is shown of an observation is shown of it moved
same_moved : (r : Renaming) → IsFaithful r → (a b : Tree) (w : Observation) (s : Statement)
    → shows_same a b w s ≡ true
    → shows_same (rename_tree r a) (rename_tree r b) (renamed_observation r w) (renamed_statement r s) ≡ true
same_moved r h a b w (Equation c d) e =
    let names = argument_name c in
    let left = rename_tree r a in
    let right = rename_tree r b in
    let v = renamed_observation r w in
    let old = Equation (observer_term names w a) (observer_term names w b) in
    let new : (ℕ → List ℕ) → Statement = λ ns. Equation (observer_term ns v left) (observer_term ns v right) in
    let equal = same_statement (Equation c d) old in
    let apart = are_apart (other_variables names w) a b in
    let case : (ℕ → List ℕ) → Bool =
    λ ns. same_statement (renamed_statement r (Equation c d)) (new ns) && are_apart (other_variables ns v) left right in
    subst (λ ns. case ns ≡ true) (sym (argument_moved r c))
    (and_both (same_statement (renamed_statement r (Equation c d)) (new names))
    (are_apart (other_variables names v) left right)
    (is_same (renamed_statement r (Equation c d)) (new names)
    (statement_moved r (Equation c d) old (and_left equal apart e)
    ∙ (λ i. Equation (observed_renamed r h.signatures names w a i) (observed_renamed r h.signatures names w b i))))
    (ap (λ vs. are_apart vs left right) (others_renamed r h.signatures names w)
    ∙ apart_moved r h.apart (other_variables names w) a b ∙ and_right equal apart e))
same_moved r h a b w (Generated s fs) e = cc
same_moved r h a b w (Partitioned s fs) e = cc

-- lines are found moved
abbrev pub LinesMoved : Move → List Event → List Event → Type 0
LinesMoved m h g =
    (n : ℕ) (s : Statement) → find_line h n ≡ Some s
    → find_line g (m.line n) ≡ Some (renamed_statement m.renaming s)

shown_moved : (m : Move) → IsFaithful m.renaming → (h g : List Event) → LinesMoved m h g → (a b : Tree)
    (ws : List Observation) (ns : List ℕ) → show_same h a b ws ns ≡ true
    → show_same g (rename_tree m.renaming a) (rename_tree m.renaming b) (map (renamed_observation m.renaming) ws)
    (map m.line ns) ≡ true
shown_moved m f h g k a b [] [] e = refl
shown_moved m f h g k a b [] (n ∷ ns) e = cc
shown_moved m f h g k a b (w ∷ ws) [] e = cc
shown_moved m f h g k a b (w ∷ ws) (n ∷ ns) e =
    let r = m.renaming in
    let first = option_map_or (shows_same a b w) (find_line h n) false in
    let rest = show_same h a b ws ns in
    let new = shows_same (rename_tree r a) (rename_tree r b) (renamed_observation r w) in
    and_both (option_map_or new (find_line g (m.line n)) false)
    (show_same g (rename_tree r a) (rename_tree r b) (map (renamed_observation r) ws) (map m.line ns))
    (map_or_true (shows_same a b w) (find_line h n) (and_left first rest e)
    (λ s p q. ap (λ o. option_map_or new o false) (k n s p) ∙ same_moved r f a b w s q))
    (shown_moved m f h g k a b ws ns (and_right first rest e))

pub observed_moved : (m : Move) → IsFaithful m.renaming → (h g : List Event) → LinesMoved m h g → (ns : List ℕ)
    (s c z : Statement) → observed_equal h ns s c ≡ Some z
    → observed_equal g (map m.line ns) (renamed_statement m.renaming s) (renamed_statement m.renaming c)
    ≡ Some (renamed_statement m.renaming z)
observed_moved m f h g k ns (Equation a b) (Partitioned s os) z e =
    let r = m.renaming in
    let left = rename_tree r a in
    let right = rename_tree r b in
    let shown = show_same h a b (observations_of s os) ns in
    let c = cond_some (bytes_eq (sort_of a) s && shown) (Equation a b) z e in
    let new = show_same g left right (observations_of (r.sort s) (map r.operator os)) (map m.line ns) in
    chosen (bytes_eq (sort_of left) (r.sort s) && new) (Equation left right)
    (and_both (bytes_eq (sort_of left) (r.sort s)) new
    (same_bytes (sort_of left) (r.sort s)
    (renamed_sort r f.signatures a ∙ ap r.sort (bytes_told (sort_of a) s (and_left (bytes_eq
    (sort_of a) s) shown c.0))))
    (ap (λ ws. show_same g left right ws (map m.line ns)) (observations_of_renamed r f s os)
    ∙ shown_moved m f h g k a b (observations_of s os) ns (and_right (bytes_eq (sort_of a) s) shown c.0)))
    ∙ ap (λ w. Some (renamed_statement r w)) c.1
observed_moved m f h g k ns (Equation a b) (Equation c d) z e = cc
observed_moved m f h g k ns (Equation a b) (Generated s fs) z e = cc
observed_moved m f h g k ns (Generated s fs) c z e = cc
observed_moved m f h g k ns (Partitioned s fs) c z e = cc

-- generated
holds_moved : (r : Renaming) → IsFaithful r → (p : PlainOperator) (s : List ℕ) (z : Statement)
    → holds_of_variable p s z ≡ true
    → IsEquation z × (holds_of_variable (r.operator p) (r.sort s) (renamed_statement r z) ≡ true)
holds_moved r h p s (Equation a b) e =
    let old = Equation (apply_one p (var (argument_name a 1) s)) truth in
    let new : (ℕ → List ℕ) → Statement =
    λ ns. Equation (apply_one (r.operator p) (var (ns 1) (r.sort s))) truth in
    let given = renamed_statement r (Equation a b) in (
      tt,
      subst (λ ns. same_statement given (new ns) ≡ true) (sym (argument_moved r a))
          (is_same given (new (argument_name a))
          (statement_moved r (Equation a b) old e
          ∙ (λ i. Equation (apply_one (r.operator p) (var (argument_name a 1) (r.sort s)))
          (truth_renamed r h.built_in i)))),
    )
holds_moved r h p s (Generated z fs) e = cc
holds_moved r h p s (Partitioned z fs) e = cc

generation_moved : (m : Move) (t u : Theory) → IsMove m t u → (s : List ℕ) (fs : List PlainOperator) (b : PlainBox)
    (z : Statement) → shows_generated s fs b z ≡ true
    → IsEquation z
    × (shows_generated (m.renaming.sort s) (map m.renaming.operator fs) (moved_box m b)
    (renamed_statement m.renaming z) ≡ true)
generation_moved m t u x s fs b z e =
    let r = m.renaming in
    let d = moved_box m b in
    let p = box_predicate b.number 1 s in
    let q = box_predicate d.number 1 (r.sort s) in
    let hs = generation_hypotheses p s fs in
    let hs_new = generation_hypotheses q (r.sort s) (map r.operator fs) in
    let named : r.operator p ≡ q = predicate_moved m t u x b.number 1 s in
    let one = is_predicate_on s b.parts in
    let supposed = same_statements b.hypotheses hs in
    let holds = holds_of_variable p s z in
    let rest = and_right one (supposed && holds) e in
    let w = holds_moved r x.faithful p s z (and_right supposed holds rest) in (
      w.0,
      and_both (is_predicate_on (r.sort s) d.parts)
          (same_statements d.hypotheses hs_new && holds_of_variable q (r.sort s) (renamed_statement r z))
          (predicates_moved m s b.parts (and_left one (supposed && holds) e))
          (and_both (same_statements d.hypotheses hs_new) (holds_of_variable q (r.sort s) (renamed_statement r z))
          (are_same d.hypotheses hs_new
          (statements_moved r b.hypotheses hs (and_left supposed holds rest)
          ∙ generation_renamed r x.faithful p s fs
          ∙ ap (λ o. generation_hypotheses o (r.sort s) (map r.operator fs)) named))
          (subst (λ o. holds_of_variable o (r.sort s) (renamed_statement r z) ≡ true) named w.1)),
    )

pub generated_moved : (m : Move) (t u : Theory) → IsMove m t u → (s : List ℕ) (c : PlainBox × Statement)
    (fs : List PlainOperator) (z : Statement) → generated_by s c fs ≡ Some z
    → IsEquation c.1
    × (generated_by (m.renaming.sort s) (moved_closed m c) (map m.renaming.operator fs)
    ≡ Some (renamed_statement m.renaming z))
generated_moved m t u x s c fs z e =
    let r = m.renaming in
    let ranges = list_all (λ f. bytes_eq f.range s) fs in
    let shown = shows_generated s fs c.0 c.1 in
    let w = cond_some (ranges && shown) (Generated s fs) z e in
    let v = generation_moved m t u x s fs c.0 c.1 (and_right ranges shown w.0) in
    let test : PlainOperator → Bool = λ f. bytes_eq f.range (r.sort s) in
    let gs = map r.operator fs in
    let shown_new = shows_generated (r.sort s) gs (moved_box m c.0) (renamed_statement r c.1) in (
      v.0,
      chosen (list_all test gs && shown_new) (Generated (r.sort s) gs)
          (and_both (list_all test gs) shown_new
          (all_mapped test r.operator fs
          ∙ all_alike (λ f. test (r.operator f)) (λ f. bytes_eq f.range s)
          (λ f. ap (λ q. bytes_eq q (r.sort s)) (x.faithful.signatures.range f)
          ∙ sort_test r x.faithful.apart f.range s) fs
          ∙ and_left ranges shown w.0) v.1)
          ∙ ap (λ q. Some (renamed_statement r q)) w.1,
    )

-- partitioned
partition_moved : (m : Move) (t u : Theory) → IsMove m t u → (s : List ℕ) (os : List PlainOperator) (b : PlainBox)
    (z : Statement) → shows_partitioned s os b z ≡ true
    → IsEquation z
    × (shows_partitioned (m.renaming.sort s) (map m.renaming.operator os) (moved_box m b)
    (renamed_statement m.renaming z) ≡ true)
partition_moved m t u x s os b z e =
    let r = m.renaming in
    let d = moved_box m b in
    let q = r.sort s in
    let one = constant (box_constant b.number 1 s) in
    let two = constant (box_constant b.number 2 s) in
    let one_new = constant (box_constant d.number 1 q) in
    let two_new = constant (box_constant d.number 2 q) in
    let first : rename_tree r one ≡ one_new = ap constant (constant_moved m t u x b.number 1 s) in
    let second : rename_tree r two ≡ two_new = ap constant (constant_moved m t u x b.number 2 s) in
    let hs = observations place_name s os one two in
    let hs_new = observations place_name q (map r.operator os) one_new two_new in
    let constants = has_constants b (s ∷ s ∷ []) in
    let supposed = same_statements b.hypotheses hs in
    let equal = same_statement z (Equation one two) in
    let rest = and_right constants (supposed && equal) e in
    let result : z ≡ Equation one two = statement_told z (Equation one two) (and_right supposed equal rest) in (
      subst IsEquation (sym result) tt,
      and_both (has_constants d (q ∷ q ∷ []))
          (same_statements d.hypotheses hs_new && same_statement (renamed_statement r z) (Equation one_new two_new))
          (constants_moved m b (s ∷ s ∷ []) (and_left constants (supposed && equal) e))
          (and_both (same_statements d.hypotheses hs_new)
          (same_statement (renamed_statement r z) (Equation one_new two_new))
          (are_same d.hypotheses hs_new
          (statements_moved r b.hypotheses hs (and_left supposed equal rest)
          ∙ observations_renamed r x.faithful place_name s os one two
          ∙ (λ i. observations place_name q (map r.operator os) (first i) (second i))))
          (is_same (renamed_statement r z) (Equation one_new two_new)
          (ap (renamed_statement r) result ∙ (λ i. Equation (first i) (second i))))),
    )

pub partitioned_moved : (m : Move) (t u : Theory) → IsMove m t u → (s : List ℕ) (c : PlainBox × Statement)
    (os : List PlainOperator) (z : Statement) → partitioned_by s c os ≡ Some z
    → IsEquation c.1
    × (partitioned_by (m.renaming.sort s) (moved_closed m c) (map m.renaming.operator os)
    ≡ Some (renamed_statement m.renaming z))
partitioned_moved m t u x s c os z e =
    let r = m.renaming in
    let old : PlainOperator → Bool = λ o. list_any (bytes_eq s) o.domain in
    let test : PlainOperator → Bool = λ o. list_any (bytes_eq (r.sort s)) o.domain in
    let shown = shows_partitioned s os c.0 c.1 in
    let w = cond_some (list_all old os && shown) (Partitioned s os) z e in
    let v = partition_moved m t u x s os c.0 c.1 (and_right (list_all old os) shown w.0) in
    let ps = map r.operator os in
    let shown_new = shows_partitioned (r.sort s) ps (moved_box m c.0) (renamed_statement r c.1) in (
      v.0,
      chosen (list_all test ps && shown_new) (Partitioned (r.sort s) ps)
          (and_both (list_all test ps) shown_new
          (all_mapped test r.operator os
          ∙ all_alike (λ o. test (r.operator o)) old
          (λ o. ap (list_any (bytes_eq (r.sort s))) (x.faithful.signatures.domain o)
          ∙ any_mapped r.sort (bytes_eq (r.sort s)) (bytes_eq s) (sort_test r x.faithful.apart s) o.domain) os
          ∙ and_left (list_all old os) shown w.0) v.1)
          ∙ ap (λ q. Some (renamed_statement r q)) w.1,
    )
