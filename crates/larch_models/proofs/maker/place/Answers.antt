use Rattle.std.proofs.Common.{◌<◌, length, sym, ◌∙◌, arith}
use Rattle.larch_models.proofs.Makers.{place_beyond, place_ends}
use Rattle.larch_models.proofs.maker.place.Goals as goal

pub returns-in_err-place-clause-none : goal.returns-in_err-place-clause-none
returns-in_err-place-clause-none c =
    let first : c.loop-i.i < length c.args.lasts.now = omega (arith, c.loop-i-test.true, c.min-i-end.ensures) in
    let second : c.loop-i.i < length c.args.arguments.now = omega (arith, c.loop-i-test.true, c.min-i-end.ensures) in
    rw c.from_residual.ensures
    (place_beyond c.args.lasts.now c.args.arguments.now c.loop-i.i c.loop-i.place _ first second c.loop-i.invariant
    c.in_err-place.ensures.none)

pub returns-clause-some : goal.returns-clause-some
returns-clause-some c =
    sym (place_ends c.args.lasts.now c.args.arguments.now c.loop-i.i c.loop-i.place
    (omega (arith, c.loop-i-test.false, c.min-i-end.ensures))) ∙ c.loop-i.invariant
