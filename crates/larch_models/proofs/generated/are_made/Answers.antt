use Rattle.std.proofs.Common.{sym, ◌∙◌, arith}
use Rattle.larch_models.proofs.Generations.{arguments_end}
use Rattle.larch_models.proofs.generated.are_made.Goals as goal

pub returns : goal.returns
returns c =
    sym (arguments_end c.args.own.now c.args.made.now c.args.values.now c.loop-i.i
    (omega (arith, c.loop-i-test.false, c.min-i-end.ensures))) ∙ c.loop-i.invariant
