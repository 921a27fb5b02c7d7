use Rattle.std.proofs.Common.{arith}
use Rattle.larch_io.proofs.Front.{none_in_front}
use Rattle.larch_io.proofs.take.line_end.Goals as goal

pub returns-else-room : goal.returns-else-room
returns-else-room c = (
  omega arith,
  omega arith,
  none_in_front c.args.bytes.now 201 c.loop-place.place
      (omega arith) c.loop-place.invariant,
)
