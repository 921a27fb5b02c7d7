use Rattle.std.proofs.Common.{◌≡◌, length}
use Rattle.larch_certificate_text.specs.ListText.{read_each, split_at}
use Rattle.larch_certificate_reader.specs.Counted.{read_count}
use Rattle.larch_certificate_reader.proofs.ListSteps.{with_more}
use Rattle.larch_certificate_reader.proofs.list.read_counts.Given as goal

abbrev pub invariant-items : goal.invariant-items
invariant-items l =
    with_more l.items (read_each (read_count l.here l.kind) (split_at l.separator l.rest))
    ≡ read_each (read_count l.here l.kind) (split_at l.separator l.text)

abbrev pub decreases-items : goal.decreases-items
decreases-items l = length l.rest
