use Rattle.std.proofs.Common.{◌≡◌, None, replicate}
use Rattle.larch_flat.proofs.flat_traits.FlatTraits.none.Given as goal

-- nothing is known of the files so far
abbrev pub invariant-loop : goal.invariant-loop
invariant-loop l = l.answers.items ≡ replicate l.counter None
