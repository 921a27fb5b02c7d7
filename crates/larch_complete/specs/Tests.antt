-- What tests of equations find.
use Rattle.std.specs.Prelude.{◌≡◌, true, false, Bool, List, ◌∷◌, ◌++◌, Option, Some, Ok}
use Rattle.larch_complete_meaning.specs.LastTest.{first_apart, first_apart_in, unless_found}
use Rattle.larch_complete_meaning.specs.Rounds.{Task}
use Rattle.larch_complete_meaning.specs.Steps.{Step}
use Rattle.larch_complete_rounds.specs.Halt.{Tells}
use Rattle.larch_complete_rounds.specs.declared.halt.Halt.{Halt}
use Rattle.larch_rewrite_meaning.specs.Sides.{Sides}

-- a test of an equation goes on to those behind it where the sides have one normal form, and else it finds the equation
abbrev pub IsTold : Task → List Sides → Sides → Bool → Type 0
IsTold task rules e joins =
    (es : List Sides) → first_apart task rules (e ∷ es)
    ≡ elim joins [ true ↦ first_apart task rules es | false ↦ Ok (Some e) ]

-- it ends as a halt tells, whatever stands behind it
abbrev pub TellsOf : Task → List Sides → Sides → Halt → Type 0
TellsOf task rules e halt = (es : List Sides) → Tells (first_apart task rules (e ∷ es)) halt

-- a test of lists of equations finds this, and goes on to those behind them where it finds nothing
abbrev pub Finds : Task → List Sides → List (Step (List Sides)) → Option Sides → Type 0
Finds task rules groups found =
    (others : List (Step (List Sides))) → first_apart_in task rules (groups ++ others)
    ≡ unless_found (first_apart_in task rules others) found

-- it ends as a halt tells, whatever stands behind them
abbrev pub Halts : Task → List Sides → List (Step (List Sides)) → Halt → Type 0
Halts task rules groups halt =
    (others : List (Step (List Sides))) → Tells (first_apart_in task rules (groups ++ others)) halt
