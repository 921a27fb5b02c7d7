-- A flat trait, as deep as there are files, is that of its text over the flat traits of the files that it refers to.
use Rattle.std.proofs.Common.{◌≡◌, ℕ, suc, ◌≤◌, length, List}
use Rattle.larch_flat_meaning.specs.Files.{Files}
use Rattle.larch_flat_meaning.specs.Flat.{flat, flat_by, flat_file}
use Rattle.larch_flat_meaning.specs.Laws.{AreAmong, IsTold}
use Rattle.larch_flat_meaning.proofs.Closures.{Names}
use Rattle.larch_flat_meaning.proofs.DeepEnough.{deep_enough}
use Rattle.larch_flat_meaning.proofs.Depth.{further, kept_told}

told_by : (files : Files) (all : Names) → AreAmong files all → (limit : ℕ) → length all ≤ limit → (name : List ℕ)
    → IsTold (flat_by (suc limit) (suc limit) files name)
unfolding flat
told_by files all among limit l name = deep_enough files all among limit l name

-- references may be followed with the same depth
pub unfolds : (files : Files) (all : Names) → AreAmong files all → (limit : ℕ) → length all ≤ limit → (name : List ℕ)
    → flat limit files name ≡ flat_file (suc limit) files name (flat limit files) (files name)
unfolding flat
unfolds files all among limit l name =
    kept_told (flat_by (suc limit) (suc limit) files name) (flat_by (suc (suc limit)) (suc limit) files name)
    (further (suc limit) (suc limit) files name) (told_by files all among limit l name)
