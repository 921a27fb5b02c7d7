use Rattle.std.specs.Prelude.{refl}
use Rattle.std.proofs.Common.{ap₂, ◌∙◌}
use Rattle.larch_calculus.specs.Formula.{formula}
use Rattle.larch_prove_boxes.proofs.Begun.{equation_begun}
use Rattle.larch_prove_boxes.proofs.beginning.begin_equation.Goals as goal

pub returns : goal.returns
returns c t start over words =
    equation_begun t _ _ _ _ _ start over words refl c.new.ensures
    (c.in_ok-first.ensures ∙ ap₂ formula c.in_ok-left.ensures c.in_ok-right.ensures) c.in_ok-way.ensures.says
    c.in_ok-way.ensures.extends
