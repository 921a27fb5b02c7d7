use Rattle.std.proofs.Common.{◌∙◌}
use Rattle.larch_certificate_reader.proofs.Feeding.{feed_ends}
use Rattle.larch_certificate_reader.proofs.machine.feed.Goals as goal

pub returns-in-Ends : goal.returns-in-Ends
returns-in-Ends c =
    feed_ends c.args.here c.marks.reading c.marks.rest.now c.in-Some.atom.now c.in-Some.others.now c.in-Some.mark
    c.in-Ends.term c.in-Some.ensures.some (rw c.in-Ends.is at c.in_ok-take_mark.ensures) ∙ c.marks.invariant
