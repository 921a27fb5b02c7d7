-- How many files may be put together.
use Rattle.std.specs.Prelude.{ℕ, Bool, ◌&&◌, not, nat_le, List, length}
use Rattle.larch_base.specs.declared.limits.TheConstants.{MAX_FILES}
use Rattle.larch_traits.specs.Files.{Table, has_file}

-- a file is refused where it would be one too many
abbrev pub put_is_refused : Table → List ℕ → Bool
put_is_refused files name = not (has_file files name) && nat_le MAX_FILES (length files)
