use Rattle.std.proofs.Common.{◌≡◌, ◌++◌, drop}
use Rattle.std.specs.List.{flat_map}
use Rattle.larch_sorts_signature.specs.Domains.{with_sorts}
use Rattle.larch_sorts_signature.proofs.domains.longer.Given as goal

-- the longer ones so far, with those of the domains that are left, are all
abbrev pub invariant-loop-domain : goal.invariant-loop-domain
invariant-loop-domain l =
    l.more ++ flat_map (with_sorts l.table.found.value.entries) (drop l.domain-index l.domains)
    ≡ flat_map (with_sorts l.table.found.value.entries) l.domains
