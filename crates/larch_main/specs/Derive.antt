-- How many steps a derivation costs.
use Rattle.std.specs.Prelude.{◌≤◌, ◌+◌, ℕ, List, [], Option}
use Rattle.larch_io.specs.Folder.{FileMap}
use Rattle.larch_main.specs.Replay.{steps_on}
use Rattle.larch_main_files.specs.Gather.{IsFolder, gather_names}

-- On some folder, the told one where it is told, so many steps were counted `before` and are `now`: no more than for a
-- report on the files.
pub record Worked (limit : ℕ) (names : List (List ℕ)) (told : Option FileMap) (before now : ℕ) : Type 0 where
  pub folder : FileMap
  pub is_folder : IsFolder told folder
  pub least : before ≤ now
  pub most : now ≤ before + steps_on limit (gather_names folder [] names)
