-- By the kind of the statement.
use Rattle.std.proofs.Common.{ap, refl, sym, ◌∙◌}
use Rattle.larch_prove_beginning.proofs.Posing.{posed_as}
use Rattle.larch_prove_beginning.proofs.goal.make_goal.Goals as goal
use Rattle.larch_prove_beginning.specs.Goal.{taken_by}
use Rattle.larch_prove_settling.proofs.Leaving.{if_answered}
use Rattle.larch_term.specs.declared.statement.Statement.TheVariants.{Equation, Generated, Partitioned}

pub returns-in-Equation : goal.returns-in-Equation
returns-in-Equation c =
    let taken = taken_by c.args.theory.now c.args.scope.now in
    if_answered _ _ c.make_equation.result (λ f h.
    posed_as c.args.theory.now c.args.builder.now c.make_equation.new.builder c.args.statement.now
    (Equation c.in-Equation.left c.in-Equation.right) taken taken c.args.scope.now f c.in-Equation.is refl
    (h c.args.theory.now taken)) c.make_equation.ensures

pub returns-in-Generated : goal.returns-in-Generated
returns-in-Generated c =
    if_answered _ _ c.make_generation.result (λ f h.
    posed_as c.args.theory.now c.args.builder.now c.make_generation.new.builder c.args.statement.now
    (Generated c.in-Generated.sort c.as_slice-generators.result.now)
    (taken_by c.args.theory.now c.args.scope.now) c.as_slice-taken.result.now c.args.scope.now f
    (c.in-Generated.is ∙ ap (λ fs. Generated c.in-Generated.sort fs) (sym c.as_slice-generators.ensures))
    (c.as_slice-taken.ensures.value ∙ c.in_ok-names.ensures)
    (h c.args.theory.now)) c.make_generation.ensures

pub returns : goal.returns
returns c =
    if_answered _ _ c.make_partition.result (λ f h.
    posed_as c.args.theory.now c.args.builder.now c.make_partition.new.builder c.args.statement.now
    (Partitioned c.in-Partitioned.sort c.as_slice-observers.result.now)
    (taken_by c.args.theory.now c.args.scope.now) c.as_slice-taken.result.now c.args.scope.now f
    (c.in-Partitioned.is ∙ ap (λ fs. Partitioned c.in-Partitioned.sort fs) (sym c.as_slice-observers.ensures))
    (c.as_slice-taken.ensures.value ∙ c.in_ok-names.ensures)
    (h c.args.theory.now)) c.make_partition.ensures
