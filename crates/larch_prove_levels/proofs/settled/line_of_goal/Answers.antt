-- A goal that is true is said by its way; and where true is false, anything is.
use Rattle.std.proofs.Common.{ap, subst, sym, ◌∙◌}
use Rattle.std.specs.Prelude.{is_some}
use Rattle.larch_prove_boxes.specs.DerivePredicates.{HasEquation}
use Rattle.larch_prove_adding.specs.KeptFacts.{facts_of}
use Rattle.larch_prove_levels.proofs.Settling.{may_show, said_of_same, settled_open, settled_true}
use Rattle.larch_prove_levels.proofs.settled.line_of_goal.Goals as goal
use Rattle.larch_store.specs.Numbered.{term_of}
use Rattle.larch_term.proofs.TruthTest.{is_truth_Decides}
use Rattle.larch_term.specs.Truth.{truth}

pub returns-then-branch-clause-proved : goal.returns-then-branch-clause-proved
returns-then-branch-clause-proved c =
    settled_true (facts_of c.args.level.now.facts) (term_of c.args.level.now.goal.term)
    (sym c.in_ok-is_true.ensures ∙ c.if-branch.true)

pub returns-then-branch-clause-says : goal.returns-then-branch-clause-says
returns-then-branch-clause-says c =
    subst (λ t. HasEquation c.args.builder.now c.args.level.now.goal.way (term_of c.args.level.now.first) t)
    ((is_truth_Decides (term_of c.args.level.now.goal.term)).0 (sym c.in_ok-is_true.ensures ∙ c.if-branch.true))
    c.requires.ready.way

pub returns-in_default-clause-open : goal.returns-in_default-clause-open
returns-in_default-clause-open c =
    settled_open (facts_of c.args.level.now.facts) (term_of c.args.level.now.goal.term)
    (sym c.in_ok-is_true.ensures ∙ c.if-branch.false) (ap is_some (sym c.absurd.ensures ∙ c.in_default.is))

pub returns-in_err-number-clause-extends : goal.returns-in_err-number-clause-extends
returns-in_err-number-clause-extends c =
    let m = may_show c.args.builder.now c.args.level.now c.args.store.now c.in_ok-first.first c.in_ok-truth.truth
    c.in-Some.line c.requires.ready c.requires.stored (sym c.absurd.ensures ∙ c.in-Some.is) c.in_ok-first.ensures
    c.in_ok-truth.ensures in
    c.in_err-number.ensures.extends m.left m.right m.sorts m.says

pub returns-clause-says : goal.returns-clause-says
returns-clause-says c =
    let m = may_show c.args.builder.now c.args.level.now c.args.store.now c.in_ok-first.first c.in_ok-truth.truth
    c.in-Some.line c.requires.ready c.requires.stored (sym c.absurd.ensures ∙ c.in-Some.is) c.in_ok-first.ensures
    c.in_ok-truth.ensures in
    said_of_same c.absurd-2.new.builder c.in_ok-number.number c.in_ok-first.first c.in_ok-truth.truth
    (term_of c.args.level.now.first) truth c.in_ok-first.ensures c.in_ok-truth.ensures
    (c.in_ok-number.ensures.says m.left m.right m.sorts m.says)

pub returns-clause-extends : goal.returns-clause-extends
returns-clause-extends c =
    let m = may_show c.args.builder.now c.args.level.now c.args.store.now c.in_ok-first.first c.in_ok-truth.truth
    c.in-Some.line c.requires.ready c.requires.stored (sym c.absurd.ensures ∙ c.in-Some.is) c.in_ok-first.ensures
    c.in_ok-truth.ensures in
    c.in_ok-number.ensures.extends m.left m.right m.sorts m.says
