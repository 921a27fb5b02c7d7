-- What was found of the sides of an equation.
use Rattle.std.specs.Prelude.{Bool, List, None, Option, Some, fold, ℕ, ◌&&◌, ◌≡◌, ◌⊎◌}
use Rattle.larch_raw.specs.RawTree.{RawTree}
use Rattle.larch_raw.specs.declared.equation.RawEquation.{RawEquation}
use Rattle.larch_term.specs.Operator.{PlainOperator}
use Rattle.larch_term.specs.BuiltIn.{bool_sort}
use Rattle.larch_term.specs.Sorts.{sort_of}
use Rattle.larch_term.specs.Tree.{Tree}
use Rattle.larch_term.specs.declared.statement.Statement.TheVariants.{Equation}
use Rattle.larch_term.specs.Equality.{same_tree}
use Rattle.larch_term.specs.Truth.{truth}
use Rattle.larch_sorts_signature.specs.SortsMeaningParts.{sides}
use Rattle.larch_sorts_signature.specs.SortsMeaningReadings.{Reads, ReadsEquation}
use Rattle.larch_sorts_signature.specs.SortsMeaningScope.{Variables}
use Rattle.larch_sorts_signature.specs.Table.{Entries, reading_at, sorts_in}
use Rattle.larch_sorts_signature.specs.SortsMeaningFoundFound.{Found}
use Rattle.larch_sorts_signature.specs.SortsMeaningFoundFound.TheVariants.{One, Several}
use Rattle.larch_sorts.specs.declared.found.Sides.{Sides}
use Rattle.larch_sorts_signature.specs.SortsMeaningFound.{with_found}

-- what was found of all sorts
abbrev pub found_anywhere : Entries → Option (Found Tree)
found_anywhere es = fold (λ before s. with_found same_tree before (reading_at es s)) None (sorts_in es)

-- whether both sides of two equations are equal
abbrev pub same_sides : Sides → Sides → Bool
same_sides a b = same_tree a.left b.left && same_tree a.right b.right

-- a left side together with a right side
abbrev pub pair_sides : Option (Found Tree) → Option (Found Tree) → Option (Found Sides)
pair_sides None right = None
pair_sides (Some left) None = None
pair_sides (Some Several) (Some right) = Some Several
pair_sides (Some (One l)) (Some Several) = Some Several
pair_sides (Some (One l)) (Some (One r)) = Some (One (record { left = l; right = r }))

-- the sides of one of these sorts
abbrev pub sides_found : Entries → Entries → List (List ℕ) → Option (Found Sides)
sides_found left right ss =
    fold (λ before s. with_found same_sides before (pair_sides (reading_at left s) (reading_at right s))) None ss

-- the sides that are found at the sorts of the left, or of the right
abbrev pub AreFound : Entries → Entries → Option (Found Sides) → Type 0
AreFound left right found =
    (found ≡ sides_found left right (sorts_in left)) ⊎ (found ≡ sides_found left right (sorts_in right))

-- a formula, beside which true stands
abbrev pub formula_found : Option (Found Tree) → Option (Found Sides)
formula_found None = None
formula_found (Some Several) = Some Several
formula_found (Some (One l)) = Some (One (record { left = l; right = truth }))

-- an equation reads as these sides
abbrev pub ReadsSides : List PlainOperator → Variables → RawEquation → Sides → Type 0
ReadsSides fs vs raw sides = ReadsEquation fs vs raw (Equation sides.left sides.right)

-- two terms read as these, of one sort
abbrev pub ReadBoth : List PlainOperator → Variables → RawTree → RawTree → Sides → Type 0
ReadBoth fs vs left right sides =
    Reads fs vs left sides.left × (Reads fs vs right sides.right × (sort_of sides.left ≡ sort_of sides.right))

-- a formula reads as this, and true beside it
abbrev pub ReadsFormula : List PlainOperator → Variables → RawTree → Sides → Type 0
ReadsFormula fs vs left sides =
    Reads fs vs left sides.left × ((sort_of sides.left ≡ bool_sort) × (sides.right ≡ truth))
