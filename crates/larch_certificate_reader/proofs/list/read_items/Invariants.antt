use Rattle.std.proofs.Common.{◌≡◌, length}
use Rattle.larch_certificate_text.specs.ListText.{read_each, split_at}
use Rattle.larch_certificate_reader.proofs.ListSteps.{with_more}
use Rattle.larch_certificate_reader.proofs.list.read_items.Given as goal

abbrev pub invariant-items : goal.invariant-items
invariant-items g l =
    with_more l.items (read_each (g.T.Item.reads l.here) (split_at l.separator l.rest))
    ≡ read_each (g.T.Item.reads l.here) (split_at l.separator l.text)

abbrev pub decreases-items : goal.decreases-items
decreases-items g l = length l.rest
