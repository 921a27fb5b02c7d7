use Rattle.std.specs.Prelude.{◌≡◌, ◌≤◌, length, take}
use Rattle.larch_prove_adding.proofs.named.count_others.Given as goal
use Rattle.larch_rewrite.specs.RuleSet.{without}

-- so many of those so far
abbrev pub invariant-loop-index : goal.invariant-loop-index
invariant-loop-index l = record {
  counted : l.others ≡ length (without l.name (take l.index l.rules.rules));
  bound : l.others ≤ l.index;
}
