-- The constants of the boxes that levels of the code keep open.
use Rattle.std.specs.Prelude.{List, [], ◌∷◌, ◌++◌, Option, None, Some}
use Rattle.std.specs.List.{flat_map}
use Rattle.larch_derive.specs.declared.open_box.OpenBox.{OpenBox}
use Rattle.larch_prove_settling.specs.ProveBoxesBoxLists.{box_list}
use Rattle.larch_prove_settling.specs.ProveLevelsLevelLevel.{Level}
use Rattle.larch_prove_settling.specs.ProveLevelsLevelRunning.{Running}
use Rattle.larch_term.specs.Operator.{PlainOperator}

-- the box of a method, if one runs that has one
abbrev pub shared_in : Option Running → List OpenBox
shared_in None = []
shared_in (Some r) = box_list r.shared

-- the boxes that a level keeps open, the outermost first
abbrev pub boxes_in_level : Level → List OpenBox
boxes_in_level level = (box_list level.entrance ++ level.extras) ++ shared_in level.running

-- the constants of boxes
abbrev pub constants_in_boxes : List OpenBox → List PlainOperator
constants_in_boxes xs = flat_map (λ x. x.constants) xs

-- those of all levels, where the current level is the first of a list
abbrev pub constants_in_levels : List Level → List PlainOperator
constants_in_levels [] = []
constants_in_levels (level ∷ levels) = constants_in_levels levels ++ constants_in_boxes (boxes_in_level level)
