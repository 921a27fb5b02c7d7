use Rattle.std.proofs.Common.{◌-◌, ◌∙◌, ap}
use Rattle.larch_base.specs.declared.limits.TheConstants.{MAX_SOURCE_BYTES}
use Rattle.larch_io.specs.Take.{IsTooLong}
use Rattle.larch_io.proofs.take.find_line.Goals as goal

pub returns-in-TooLong-clause-refused : goal.returns-in-TooLong-clause-refused
returns-in-TooLong-clause-refused g c =
    let long : IsTooLong c.room.result c.kept.result.now = c.in-TooLong.ensures in
    let room = c.room.ensures.room ∙ ap (λ n. MAX_SOURCE_BYTES - n) c.search.invariant.counted in
    rw (c.kept.ensures, room) at long
