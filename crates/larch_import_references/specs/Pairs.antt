-- The pairs that a reference gives for all sorts and operators of a trait.
use Rattle.std.specs.Prelude.{◌≡◌, ℕ, List, [], map, All}
use Rattle.larch_term.specs.Operator.{PlainOperator, plain}
use Rattle.larch_sorts_known.specs.Sorts.{existing_sorts}
use Rattle.larch_sorts_meaning.specs.Laws.{IsSortOf}
use Rattle.larch_flat_meaning.specs.Replacements.{Replacements, new_sort, new_operator}
use Rattle.larch_import_names.specs.declared.pairs.OperatorPair.{OperatorPair}
use Rattle.larch_import_names.specs.declared.pairs.Renaming.{Renaming}
use Rattle.larch_import_names.specs.declared.pairs.SortPair.{SortPair}

abbrev pub sort_pair : Replacements → List ℕ → SortPair
sort_pair by s = record { old = s; new = new_sort by s }

abbrev pub operator_pair : Replacements → PlainOperator → OperatorPair
operator_pair by f = record { old = f; new = new_operator by f }

-- a pair for each sort that exists beside a trait's operators, Bool first, and one for each operator
abbrev pub pairs_by : Replacements → List PlainOperator → Renaming
pairs_by by fs = record { sorts = map (sort_pair by) (existing_sorts fs); operators = map (operator_pair by) fs }

-- Bool and each sort that stands in the operators have letters, and so have those in their places
abbrev pub HaveLetters : Replacements → List PlainOperator → Type 0
HaveLetters by fs = (s : List ℕ) → IsSortOf fs s → (s ≡ [] → ⊥) × (new_sort by s ≡ [] → ⊥)

-- the operators have plain names
abbrev pub ArePlain : List PlainOperator → Type 0
ArePlain fs = All (λ f. (n : List ℕ) × (f.name ≡ plain n)) fs
