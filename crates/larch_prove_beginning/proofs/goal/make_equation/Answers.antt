-- The goal of an equation is its formula.
use Rattle.larch_prove_beginning.proofs.Posing.{equation_posed}
use Rattle.larch_prove_beginning.proofs.goal.make_equation.Goals as goal

pub returns : goal.returns
returns c = λ t taken may.
    equation_posed t c.args.builder.now c.begin_equation.new.builder taken c.args.left.now c.args.right.now
    c.args.scope.now _ may (λ u start over words. c.in_ok-beginning.ensures u start over words) c.new.ensures.items
    c.new-2.ensures c.in_ok-scope.ensures
