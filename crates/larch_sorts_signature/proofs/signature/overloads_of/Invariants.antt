use Rattle.std.proofs.Common.{◌≡◌, ◌⊎◌, ℕ, List, Contains}
use Rattle.larch_sorts_counts.specs.SortsMeaningSignature.{kept_under}
use Rattle.larch_sorts_signature.proofs.signature.overloads_of.Given as goal

-- each name is left, or its operators are kept under it
abbrev pub invariant-loop-name : goal.invariant-loop-name
invariant-loop-name l =
    (n : List ℕ) → Contains l.name-iterator n ⊎ (kept_under l.index.entries n ≡ kept_under l.named.entries n)
