use Rattle.std.proofs.Common.{◌*◌, ◌+◌, refl, ◌∙◌, arith}
use Rattle.larch_models_meaning.specs.FiniteModel.{last_among}
use Rattle.larch_models_meaning.specs.Standard.{standard_last}
use Rattle.larch_models.proofs.Counts.{is_not_few, product_step}
use Rattle.larch_models.proofs.truth.are_few.Goals as goal

pub returns-then-count-gt-MAX_ASSIGNMENTS : goal.returns-then-count-gt-MAX_ASSIGNMENTS
returns-then-count-gt-MAX_ASSIGNMENTS c =
    is_not_few (standard_last (last_among c.args.sorts.now)) c.args.variables.now c.loop-variable.variable-index
    c.loop-variable.count (c.loop-variable.count * (c.from.result + 1)) 1000000 c.from.result c.variable-item.result
    c.loop-variable-test.true c.variable-item.is (c.from.ensures ∙ c.last_value.ensures) refl
    c.loop-variable.invariant.product c.if-count-gt-MAX_ASSIGNMENTS.true

pub loop-variable-preserved : goal.loop-variable-preserved
loop-variable-preserved c =
    record {
      product =
          product_step (standard_last (last_among c.args.sorts.now)) c.args.variables.now
          c.loop-variable.variable-index c.loop-variable.count c.from.result c.variable-item.result
          c.loop-variable-test.true c.variable-item.is (c.from.ensures ∙ c.last_value.ensures)
          ∙ c.loop-variable.invariant.product;
      few = omega (arith, c.if-count-gt-MAX_ASSIGNMENTS.false);
    }
