use Rattle.larch_complete.proofs.equations.state_equation.Goals as goal
use Rattle.larch_term.specs.declared.statement.Statement.TheVariants.{Equation}

pub returns-clause-says : goal.returns-clause-says
returns-clause-says c =
    rw (c.in_ok-left.ensures, c.in_ok-right.ensures)
    (c.in_ok-line.ensures.says (Equation c.args.left.now c.args.right.now) c.requires.stands c.requires.is
    c.requires.sorted)
