-- Operators by the sort that they make of so many arguments.
use Rattle.std.specs.Map.{lookup}
use Rattle.std.specs.Prelude.{if◌then◌else◌, List, None, Option, Some, fold, length, ℕ, ◌≡◌}
use Rattle.larch_term.specs.Equality.{same_operator}
use Rattle.larch_term.specs.Operator.{PlainOperator}
use Rattle.larch_sorts_signature.specs.Places.{same_place}
use Rattle.larch_sorts_counts.specs.SortsMeaningFound.{merged_by}
use Rattle.larch_sorts_counts.specs.SortsMeaningFoundFound.{Found}
use Rattle.larch_sorts_counts.specs.SortsMeaningFoundFound.TheVariants.{One}
use Rattle.larch_sorts_signature.specs.declared.place.Place.{Place}

-- the place of so many arguments, with a sort that is made of them
abbrev pub making : ℕ → List ℕ → Place
making arity s = record { arity = arity; position = 0; sort = s }

-- the place of the sort that an operator makes
abbrev pub made_place : PlainOperator → Place
made_place f = making (length f.domain) f.range

-- what was found before together with an operator, if that makes the sort of a place
abbrev pub with_maker : Place → Option (Found PlainOperator) → PlainOperator → Option (Found PlainOperator)
with_maker p before f = if same_place (made_place f) p then Some (merged_by same_operator before (One f)) else before

-- what makes the sort of a place
abbrev pub maker_among : Place → List PlainOperator → Option (Found PlainOperator)
maker_among p fs = fold (with_maker p) None fs

-- what is kept at a place
abbrev pub maker_at : List (Place × Found PlainOperator) → Place → Option (Found PlainOperator)
maker_at entries p = lookup (same_place p) entries

-- what makes the sort of each place is kept there
abbrev pub AreMakers : List (Place × Found PlainOperator) → List PlainOperator → Type 0
AreMakers entries fs = (p : Place) → maker_at entries p ≡ maker_among p fs
