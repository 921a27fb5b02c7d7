-- What was found of terms, by sort.
use Rattle.std.specs.Map.{lookup}
use Rattle.std.specs.Prelude.{List, Option, bytes_eq, ℕ, map}
use Rattle.larch_term.specs.Operator.{PlainOperator}
use Rattle.larch_term.specs.Tree.{Tree, app, forest_of}
use Rattle.larch_term.specs.Equality.{same_tree}
use Rattle.larch_sorts_counts.specs.SortsMeaningFoundFound.{Found}
use Rattle.larch_sorts_counts.specs.SortsMeaningFoundFound.TheVariants.{One, Several}
use Rattle.larch_sorts_counts.specs.SortsMeaningFound.{merged_by}

-- pairs of a sort and what was found of it
abbrev pub Entries : Type 0
Entries = List (List ℕ × Found Tree)

-- what was found of a sort
abbrev pub reading_at : Entries → List ℕ → Option (Found Tree)
reading_at es s = lookup (bytes_eq s) es

-- what was found of terms before together with what was found now
abbrev pub merge : Option (Found Tree) → Found Tree → Found Tree
merge before now = merged_by same_tree before now

-- an operator with the arguments that were found
abbrev pub application : PlainOperator → Found (List Tree) → Found Tree
application f (One ts) = One (app f (forest_of ts))
application f Several = Several

-- the sorts that have an entry
abbrev pub sorts_in : Entries → List (List ℕ)
sorts_in es = map (λ e. e.0) es
