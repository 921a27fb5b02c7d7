use Rattle.std.proofs.Common.{◌≡◌, ◌≤◌, ◌*◌, ◌-◌, ◌++◌, All, length}
use Rattle.larch_base.specs.declared.limits.TheConstants.{MAX_FILE_BYTES}
use Rattle.larch_generate.specs.Generator.{files_from, generated_files}
use Rattle.larch_generate.proofs.files.generated_files.Given as goal

-- the files so far, and those of the traits to come, are all; there are two of each trait, and they are short
abbrev pub invariant-loop-place : goal.invariant-loop-place
invariant-loop-place l =
    (l.files ++ files_from l.place (l.size - l.place) l.number ≡ generated_files l.seed l.size)
    × ((length l.files ≡ 2 * l.place) × All (λ file. length file.text ≤ MAX_FILE_BYTES) l.files)
