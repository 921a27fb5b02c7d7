-- Sorts as numbers, and operators as the numbers of their sorts.
use Rattle.std.specs.List.{position_or_len}
use Rattle.std.specs.Map.{lookup}
use Rattle.std.specs.Prelude.{Contains, IfSome, List, None, Option, Some, [], bytes_eq, length, map, ℕ, ◌∷◌, ◌≡◌}
use Rattle.larch_sorts_meaning.specs.TermOperator.{PlainOperator}
use Rattle.larch_sorts_counts.specs.Count.{counts_made}
use Rattle.larch_sorts_meaning.specs.Signature.{operators_named}
use Rattle.larch_sorts_counts.specs.declared.count.Count.{Count}
use Rattle.larch_sorts_counts.specs.declared.numbers.Numbered.{Numbered}
use Rattle.larch_sorts_counts.specs.declared.numbers.Numbers.{Numbers}

-- the number of a sort among sorts: how many stand before it
abbrev pub number_of : List (List ℕ) → List ℕ → ℕ
number_of ss s = position_or_len (bytes_eq s) ss

-- an operator as the numbers of its sorts
abbrev pub as_numbers : List (List ℕ) → PlainOperator → Numbered
as_numbers ss f = record { domain = map (number_of ss) f.domain; range = number_of ss f.range }

-- what is kept under a name, if anything is
abbrev pub kept_numbers : Option (List Numbered) → List Numbered
kept_numbers None = []
kept_numbers (Some gs) = gs

-- the operators that are kept under a name, as numbers
abbrev pub numbers_under : List (List ℕ × List Numbered) → List ℕ → List Numbered
numbers_under names n = kept_numbers (lookup (bytes_eq n) names)

-- none of these things comes twice
abbrev pub AreDifferent : {A : Type 0} → List A → Type 0
AreDifferent [] = Unit {0}
AreDifferent (x ∷ xs) = (Contains xs x → ⊥) × AreDifferent xs

-- what is kept under a name are the counts of what its operators make of no arguments
abbrev pub AreWords : ℕ → List (List ℕ × List Numbered) → List (List ℕ × List Count) → Type 0
AreWords count names words =
    (n : List ℕ) → IfSome (lookup (bytes_eq n) words) (λ counts. counts ≡ counts_made count [] (numbers_under names n))

-- these are operators, each once, as numbers by name, with the counts of what they make of no arguments
abbrev pub AreNumbers : Numbers → List PlainOperator → Type 0
AreNumbers numbers fs =
    ((n : List ℕ) → numbers_under numbers.names.entries n ≡ map (as_numbers numbers.sorts.keys) (operators_named n fs))
    × (AreDifferent fs × AreWords (length numbers.sorts.keys) numbers.names.entries numbers.words.entries)
