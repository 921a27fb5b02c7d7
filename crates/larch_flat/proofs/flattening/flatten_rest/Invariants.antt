use Rattle.std.proofs.Common.{◌≡◌, ℕ, ◌<◌, true}
use Rattle.larch_flat.specs.Known.{Knows, is_known}
use Rattle.larch_flat.proofs.flattening.flatten_rest.Given as goal

-- what is known is so, and something is known of each file so far
abbrev pub invariant-loop-number : goal.invariant-loop-number
invariant-loop-number l = record {
  knows : Knows l.sources l.known;
  so_far : (m : ℕ) → m < l.number → is_known l.known m ≡ true;
}
