use Rattle.std.specs.Prelude.{◌≡◌, None, ◌∷◌}
use Rattle.std.proofs.Common.{subst, sym}
use Rattle.larch_term.specs.Statement.{statement_zero}
use Rattle.larch_prove_invariant.specs.ProveMeaningPlans.{generators}
use Rattle.larch_prove_boxes.proofs.Ended.{generating_there, variable_there}
use Rattle.larch_prove_boxes.proofs.Handed.{induction_grows, induction_says}
use Rattle.larch_prove_boxes.proofs.induction.end_induction.Goals as goal

pub variable_named-requires : goal.variable_named-requires
variable_named-requires c =
    variable_there c.requires.left.0 _ c.args.name.now c.args.goal.now _ _ c.requires.left.1.1

pub clause_for-clause-requires : goal.clause_for-clause-requires
clause_for-clause-requires c =
    subst (λ ss. generators c.in_ok-variable.variable.sort (statement_zero ∷ ss) ≡ None → ⊥) (sym c.as_slice.ensures)
    (generating_there c.requires.left.0 _ c.args.name.now c.args.goal.now _ _ c.args.theory.now
    c.in_ok-variable.variable c.requires.theory c.in_ok-variable.ensures c.requires.left.1.1)

pub returns-clause-says : goal.returns-clause-says
returns-clause-says c =
    induction_says c.finish_induction.result c.args.builder.now c.finish_induction.new.builder c.args.name.now
    c.args.goal.now c.args.lefts.now c.args.theory.now c.as_slice.result.now c.in_ok-variable.variable
    c.clause_for-clause.result c.in_ok-boxes.boxes c.as_slice.ensures c.requires.theory c.requires.sorted
    c.in_ok-variable.ensures c.clause_for-clause.ensures c.in_ok-boxes.ensures c.finish_induction.ensures.says

pub returns-clause-grows : goal.returns-clause-grows
returns-clause-grows c =
    induction_grows c.finish_induction.result c.args.builder.now c.finish_induction.new.builder c.args.name.now
    c.args.goal.now c.args.lefts.now c.args.theory.now c.as_slice.result.now c.in_ok-variable.variable
    c.clause_for-clause.result c.in_ok-boxes.boxes c.as_slice.ensures c.requires.theory c.requires.sorted
    c.in_ok-variable.ensures c.clause_for-clause.ensures c.in_ok-boxes.ensures c.finish_induction.ensures.extends
    c.finish_induction.ensures.says
