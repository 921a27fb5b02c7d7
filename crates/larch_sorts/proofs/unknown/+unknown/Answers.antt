use Rattle.std.proofs.Common.{◌∙◌, sym, arith}
use Rattle.larch_sorts.proofs.UnknownSorts.{argument_unknown, argument_known, nothing_unknown}
use Rattle.larch_sorts.proofs.unknown.+unknown.Goals as goal

pub unknown_in_any-returns-in-Some : goal.unknown_in_any-returns-in-Some
unknown_in_any-returns-in-Some t c =
    argument_unknown c.args.signature.now c.as_slice-argument-items.result.now c.loop-argument.argument-index
    c.argument-item.result c.in-Some.pos c.loop-argument-test.true c.argument-item.is
    (sym c.in-Some.is ∙ c.unknown_in.ensures) ∙ c.loop-argument.invariant

pub unknown_in_any-loop-argument-preserved : goal.unknown_in_any-loop-argument-preserved
unknown_in_any-loop-argument-preserved t c =
    argument_known c.args.signature.now c.as_slice-argument-items.result.now c.loop-argument.argument-index
    c.argument-item.result c.loop-argument-test.true c.argument-item.is
    (sym c.in_default.is ∙ c.unknown_in.ensures) ∙ c.loop-argument.invariant

pub unknown_in_any-returns : goal.unknown_in_any-returns
unknown_in_any-returns t c =
    let over = c.loop-argument-test.false in
    nothing_unknown c.args.signature.now c.as_slice-argument-items.result.now c.loop-argument.argument-index
    (omega arith) ∙ c.loop-argument.invariant
