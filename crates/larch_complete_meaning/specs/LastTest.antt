-- The last test: whether the rules decide the theory's equations and all their critical pairs.
use Rattle.std.specs.Prelude.{true, false, List, [], ◌∷◌, Option, Some, None, Ok}
use Rattle.larch_term.specs.Equality.{same_tree}
use Rattle.larch_rewrite_meaning.specs.Sides.{Sides}
use Rattle.larch_complete_meaning.specs.Steps.{Step, after}
use Rattle.larch_complete_meaning.specs.Pairs.{pairs_of_all}
use Rattle.larch_complete_meaning.specs.Rounds.{Task, reduce}

-- the first of some equations whose sides have different normal forms, if there is one; each has the whole budget
abbrev pub first_apart : Task → List Sides → List Sides → Step (Option Sides)
first_apart task rules [] = Ok None
first_apart task rules (e ∷ es) = after (reduce task rules e) (λ found. elim (same_tree found.left found.right) [
  | true ↦ first_apart task rules es
  | false ↦ Ok (Some e)
])

-- the equation that was found, or what further tests find
abbrev pub unless_found : Step (Option Sides) → Option Sides → Step (Option Sides)
unless_found further None = further
unless_found further (Some e) = Ok (Some e)

-- the first one of some lists of equations, list by list
abbrev pub first_apart_in : Task → List Sides → List (Step (List Sides)) → Step (Option Sides)
first_apart_in task rules [] = Ok None
first_apart_in task rules (group ∷ groups) =
    after group (λ es.
    after (first_apart task rules es) (λ found. unless_found (first_apart_in task rules groups) found))

-- the first equation that the rules don't decide: of the theory's equations, or else of their own critical pairs
abbrev pub last_test : Task → List Sides → Step (Option Sides)
last_test task rules = first_apart_in task rules (Ok task.equations ∷ pairs_of_all rules)
