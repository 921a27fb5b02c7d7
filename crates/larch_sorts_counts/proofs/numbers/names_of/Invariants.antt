use Rattle.std.proofs.Common.{◌≡◌, ◌⊎◌, ℕ, List, Contains, map}
use Rattle.larch_sorts_counts.specs.Numbers.{as_numbers, numbers_under}
use Rattle.larch_sorts_meaning.specs.Signature.{kept_under}
use Rattle.larch_sorts_counts.proofs.numbers.names_of.Given as goal

-- each name is left, or its operators are kept under it as numbers
abbrev pub invariant-loop-name : goal.invariant-loop-name
invariant-loop-name l =
    (n : List ℕ) → Contains l.name-iterator n
    ⊎ (numbers_under l.names.entries n ≡ map (as_numbers l.sorts.keys) (kept_under l.index.entries n))
