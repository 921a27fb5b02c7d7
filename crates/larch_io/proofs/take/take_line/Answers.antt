use Rattle.std.proofs.Common.{◌∙◌}
use Rattle.larch_io.proofs.Front.{takes_line}
use Rattle.larch_io.proofs.take.take_line.Goals as goal

pub returns-clause-line : goal.returns-clause-line
returns-clause-line g c =
    takes_line _ c.find_line.new.reader _ _ _ c.in_ok-length.length c.in_ok-length.ending _ c.find_line.ensures.taken
    c.in_ok-length.ensures.found
    (c.from_vec.ensures ∙ c.in_ok-bytes.ensures.ok) c.in_ok-bytes.ensures.rest c.in_ok-bytes.ensures.counted
    c.take_front.ensures.ended
