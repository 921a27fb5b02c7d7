-- What a session takes in.
use Rattle.std.specs.Prelude.{◌&&◌, ◌||◌, nat_le, nat_lt, not, ℕ, Bool, List, length}
use Rattle.larch_base.specs.declared.limits.TheConstants.{MAX_FILES, MAX_FILE_BYTES}
use Rattle.larch_session_report.specs.TraitsFiles.{Table, has_file}

-- a file has too many bytes, or would be one too many
abbrev pub is_too_much : Table → List ℕ → List ℕ → Bool
is_too_much files name text =
    nat_lt MAX_FILE_BYTES (length text) || (not (has_file files name) && nat_le MAX_FILES (length files))
