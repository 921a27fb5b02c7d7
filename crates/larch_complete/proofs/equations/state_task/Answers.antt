use Rattle.std.proofs.Common.{ap, subst, sym, ◌∙◌}
use Rattle.std.specs.List.{flat_map}
use Rattle.larch_complete.specs.Stated.{AreStated}
use Rattle.larch_complete.proofs.Stating.{own_stated, task_stated}
use Rattle.larch_complete.proofs.equations.state_task.Goals as goal
use Rattle.larch_rewrite_meaning.specs.Sides.{sides_of}

pub state_equations-requires : goal.state_equations-requires
state_equations-requires c =
    subst (AreStated c.args.builder.now) (sym c.as_slice.ensures)
    (own_stated c.args.builder.now c.args.theory.now c.requires.theory c.requires.stands c.requires.sorted)

pub returns-clause-task : goal.returns-clause-task
returns-clause-task c =
    task_stated c.args.theory.now c.args.limit c.in_ok-precedence.precedence c.in_ok-equations.equations
    c.in_ok-precedence.ensures (c.in_ok-equations.ensures.sides ∙ ap (flat_map sides_of) c.as_slice.ensures)
