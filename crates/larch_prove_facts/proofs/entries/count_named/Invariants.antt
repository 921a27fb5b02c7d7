use Rattle.std.proofs.Common.{◌≡◌, ◌≤◌, bytes_eq, filter, length, take}
use Rattle.larch_prove_facts.specs.Entries.{names_in}
use Rattle.larch_prove_facts.proofs.entries.count_named.Given as goal

-- so many of those so far
abbrev pub invariant-loop-instance : goal.invariant-loop-instance
invariant-loop-instance l = record {
  counted : l.count ≡ length (filter (bytes_eq l.name) (names_in (take l.instance-index l.instances)));
  bound : l.count ≤ l.instance-index;
}
