use Rattle.std.proofs.Common.{◌≡◌, ◌-◌, ◌≤◌, ◌^◌, length}
use Rattle.larch_script.specs.Instances.{behind_others, instances_at}
use Rattle.larch_script.proofs.instances.instances_at.Given as goal

-- the instances so far and those that are left are all of them
abbrev pub invariant-loop-turn : goal.invariant-loop-turn
invariant-loop-turn l = record {
  same : behind_others l.instances (instances_at (length l.tokens.tokens - l._turn) l.tokens l.index)
      ≡ instances_at (length l.tokens.tokens) l.tokens 1;
  small : l.index ≤ 2 ^ 32;
}
