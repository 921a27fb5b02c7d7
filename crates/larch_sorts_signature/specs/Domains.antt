-- Operators by the sorts of all their arguments.
use Rattle.std.specs.List.{flat_map}
use Rattle.std.specs.Map.{lookup}
use Rattle.std.specs.Cmp.Lexicographic.{pointwise}
use Rattle.std.specs.Prelude.{Bool, List, [], bytes_eq, filter, fold, map, ℕ, ◌++◌, ◌∷◌, ◌≡◌}
use Rattle.larch_term.specs.Operator.{PlainOperator}
use Rattle.larch_sorts_signature.specs.Table.{sorts_in, Entries}
use Rattle.larch_sorts_counts.specs.SortsMeaningSignature.{kept}

-- whether an operator has this domain
abbrev pub has_domain : List (List ℕ) → PlainOperator → Bool
has_domain ss f = pointwise bytes_eq f.domain ss

-- the operators that are kept for a domain
abbrev pub kept_for : List (List (List ℕ) × List PlainOperator) → List (List ℕ) → List PlainOperator
kept_for entries ss = kept (lookup (pointwise bytes_eq ss) entries)

-- each operator is kept for its domain
abbrev pub IsByDomain : List (List (List ℕ) × List PlainOperator) → List PlainOperator → Type 0
IsByDomain entries fs = (ss : List (List ℕ)) → kept_for entries ss ≡ filter (has_domain ss) fs

-- a domain with each sort of a table behind it
abbrev pub with_sorts : Entries → List (List ℕ) → List (List (List ℕ))
with_sorts es ss = map (λ s. ss ++ s ∷ []) (sorts_in es)

-- these domains, and behind them a sort of each table
abbrev pub domains_from : List (List (List ℕ)) → List Entries → List (List (List ℕ))
domains_from dss tables = fold (λ zss es. flat_map (with_sorts es) zss) dss tables

-- the domains with a sort of each table
abbrev pub domains_of : List Entries → List (List (List ℕ))
domains_of tables = domains_from ([] ∷ []) tables

-- the operators kept for these domains
abbrev pub found_among : List (List (List ℕ) × List PlainOperator) → List (List (List ℕ)) → List PlainOperator
found_among entries dss = flat_map (kept_for entries) dss
