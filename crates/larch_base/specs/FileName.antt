-- Names of trait files and scripts.
use Rattle.std.specs.Prelude.{ℕ, ◌==◌, ◌&&◌, ◌||◌, nat_lt, nat_le, Bool, List, length, codes}
use Rattle.std.specs.Char.{is_ascii_alphanumeric}
use Rattle.std.specs.Str.{bytes_eq}
use Rattle.larch_base.specs.declared.limits.TheConstants.{MAX_STEM_BYTES}
use Rattle.std.specs.List.{list_all, before_first, after_first}

-- letters, digits and _ stand in a stem
abbrev pub is_stem_byte : ℕ → Bool
is_stem_byte byte = is_ascii_alphanumeric byte || (byte == 95)

-- 1 to 64 of them
abbrev pub is_stem : List ℕ → Bool
is_stem bytes = nat_lt 0 (length bytes) && nat_le (length bytes) MAX_STEM_BYTES && list_all is_stem_byte bytes

abbrev pub is_dot : ℕ → Bool
is_dot byte = byte == 46

-- what stands before the first dot: the name of the trait
abbrev pub stem_of : List ℕ → List ℕ
stem_of name = before_first is_dot name

-- what stands behind the first dot
abbrev pub ending_of : List ℕ → List ℕ
ending_of name = after_first is_dot name

-- the file of a trait
abbrev pub is_trait_file : List ℕ → Bool
is_trait_file name = is_stem (stem_of name) && bytes_eq (ending_of name) (codes "lsl")

-- the script of a trait
abbrev pub is_script_file : List ℕ → Bool
is_script_file name = is_stem (stem_of name) && bytes_eq (ending_of name) (codes "lp")

-- either of them
abbrev pub is_file_name : List ℕ → Bool
is_file_name name = is_trait_file name || is_script_file name
