use Rattle.std.proofs.Common.{◌≡◌, ◌≤◌, ◌++◌, drop, length, map}
use Rattle.std.specs.Prelude.{reverse}
use Rattle.larch_flat_meaning.specs.Reached.{implied_target}
use Rattle.larch_flat_sources.proofs.reaching.push_implied.Given as goal

-- what the references from here on name waits
abbrev pub invariant-loop-index : goal.invariant-loop-index
invariant-loop-index l = record {
  within : l.index ≤ length l.references;
  waits : map (λ n. n.now) l.waiting.items
      ≡ map (λ n. n.now) l.initial.waiting.items ++ reverse (map implied_target (drop l.index l.references));
}

abbrev pub decreases-loop-index : goal.decreases-loop-index
decreases-loop-index l = l.index
