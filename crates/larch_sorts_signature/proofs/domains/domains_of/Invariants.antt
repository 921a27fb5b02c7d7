use Rattle.std.proofs.Common.{◌≡◌, drop, map}
use Rattle.larch_sorts_signature.specs.Domains.{domains_from, domains_of}
use Rattle.larch_sorts_signature.proofs.domains.domains_of.Given as goal

-- the domains so far, with a sort of each table that is left, are all
abbrev pub invariant-loop-table : goal.invariant-loop-table
invariant-loop-table l =
    domains_from l.domains (drop l.table-index (map (λ t. t.found.value.entries) l.tables))
    ≡ domains_of (map (λ t. t.found.value.entries) l.tables)
