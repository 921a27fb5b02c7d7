use Rattle.std.proofs.Common.{map}
use Rattle.std.specs.List.{fold}
use Rattle.larch_sorts_signature.specs.Domains.{found_among}
use Rattle.larch_sorts_signature.specs.Operators.{with_operator}
use Rattle.larch_sorts_signature.specs.Table.{reading_at}
use Rattle.larch_sorts_signature.proofs.ByDomain.{next_added}
use Rattle.larch_sorts_signature.proofs.application.add_by_domains.Goals as goal

pub loop-domain-preserved : goal.loop-domain-preserved
loop-domain-preserved c = λ s.
    next_added (with_operator (map (λ t. t.found.value.entries) c.args.tables.now) s) c.args.domains.now.kept.entries
    c.args.among.now c.loop-domain.domain-index c.domain-item.result c.at.result.now
    (reading_at c.loop-domain.entries.entries s) (reading_at c.add_operators.new.entries.entries s)
    (fold (with_operator (map (λ t. t.found.value.entries) c.args.tables.now) s)
    (reading_at c.args.entries.now.entries s) (found_among c.args.domains.now.kept.entries c.args.among.now))
    c.loop-domain-test.true c.domain-item.is c.at.ensures (c.in_ok-add_operators.ensures s) (c.loop-domain.invariant s)
