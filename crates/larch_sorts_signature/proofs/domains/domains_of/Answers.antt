use Rattle.std.proofs.Common.{◌∙◌, ap, map}
use Rattle.std.specs.List.{flat_map}
use Rattle.larch_sorts_signature.specs.Domains.{domains_of, with_sorts}
use Rattle.larch_sorts_signature.proofs.ByDomain.{next_domains}
use Rattle.larch_sorts_signature.proofs.domains.domains_of.Goals as goal

pub loop-table-preserved : goal.loop-table-preserved
loop-table-preserved c =
    next_domains (λ t. t.found.value.entries) c.args.tables.now c.loop-table.table-index c.table-item.result
    c.loop-table.domains c.in_ok-domains.domains (domains_of (map (λ t. t.found.value.entries) c.args.tables.now))
    c.loop-table-test.true c.table-item.is
    (c.in_ok-domains.ensures ∙ ap (flat_map (with_sorts c.table-item.result.found.value.entries))
    c.as_slice.ensures) c.loop-table.invariant
