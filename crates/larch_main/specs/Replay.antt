-- What a replay of files shows and costs.
use Rattle.std.specs.Prelude.{◌≤◌, ◌<◌, ◌+◌, ℕ, List, [], length, Option, IfSome}
use Rattle.std.specs.Io.KnownBytes.{Appends}
use Rattle.larch_io.specs.Folder.{FileMap}
use Rattle.larch_prove_meaning.specs.Redo.{redo}
use Rattle.larch_main_session.specs.SessionSourcesJustified.{IsJustifiedReport}
use Rattle.larch_main_files.specs.SessionMeaningRedone.{replayed_on}
use Rattle.larch_main_status.specs.TraitsFiles.{Table}
use Rattle.larch_main_files.specs.Gather.{Gathered, Whole, Absent, TooLarge, IsFolder, gather_names}
use Rattle.larch_main_files.specs.declared.answer.Answer.{Answer}

-- each duty that the report calls proved is derivable from its own theory, where all files were gathered
abbrev pub AreDerivable : ℕ → Gathered Table → Type 0
AreDerivable limit (Whole files) = IsJustifiedReport limit files
AreDerivable limit (Absent name) = Unit {0}
AreDerivable limit TooLarge = Unit {0}

-- how many steps there are at most: those of one report on what was gathered
abbrev pub steps_on : ℕ → Gathered Table → ℕ
steps_on limit (Whole files) = redo [] (replayed_on limit files)
steps_on limit (Absent name) = 0
steps_on limit TooLarge = 0

-- What comes of a replay, by what it answers, on some folder, the told one where it is told: what the report calls
-- proved is derivable, and so many steps were counted `before` and are `now`.
pub record Replays (limit : ℕ) (names : List (List ℕ)) (told : Option FileMap) (before now : ℕ)
    (answer : Option Answer)
    : Type 0 where
  pub folder : FileMap
  pub is_folder : IsFolder told folder
  pub justified : IfSome answer (λ _. AreDerivable limit (gather_names folder [] names))
  pub least : before ≤ now
  pub most : now ≤ before + steps_on limit (gather_names folder [] names)

-- The same by what was written: where something of the report was, what it calls proved is derivable. The sink held
-- `held` and holds `holds`.
pub record Replayed (limit : ℕ) (names : List (List ℕ)) (told : Option FileMap) (held holds : Option (List ℕ))
    (before now : ℕ)
    : Type 0 where
  pub folder : FileMap
  pub front : List ℕ
  pub is_folder : IsFolder told folder
  pub written : Appends held holds front
  pub shown : 0 < length front → AreDerivable limit (gather_names folder [] names)
  pub least : before ≤ now
  pub most : now ≤ before + steps_on limit (gather_names folder [] names)
