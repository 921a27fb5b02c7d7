-- Operators that terms are read over, and their index by name.
use Rattle.std.specs.Map.{lookup}
use Rattle.std.specs.Prelude.{List, None, Option, Some, [], bytes_eq, filter, ℕ, ◌++◌, ◌≡◌}
use Rattle.larch_term.specs.Operator.{PlainOperator, plain}
use Rattle.larch_sorts_known.specs.BuiltIns.{built_ins_at}
use Rattle.larch_sorts_known.specs.Sorts.{existing_sorts}
use Rattle.larch_term.specs.Equality.{same_name}

-- the operators that terms are read over: these, and the built-in ones at each sort that exists
abbrev pub taking_part : List PlainOperator → List PlainOperator
taking_part fs = fs ++ built_ins_at (existing_sorts fs)

-- the operators of a name
abbrev pub operators_named : List ℕ → List PlainOperator → List PlainOperator
operators_named n fs = filter (λ f. same_name f.name (plain n)) fs

-- what is kept under a name, if anything is
abbrev pub kept : Option (List PlainOperator) → List PlainOperator
kept None = []
kept (Some fs) = fs

-- the operators that are kept under a name
abbrev pub kept_under : List (List ℕ × List PlainOperator) → List ℕ → List PlainOperator
kept_under entries n = kept (lookup (bytes_eq n) entries)

-- each operator is kept under its name
abbrev pub IsIndex : List (List ℕ × List PlainOperator) → List PlainOperator → Type 0
IsIndex entries fs = (n : List ℕ) → kept_under entries n ≡ operators_named n fs
