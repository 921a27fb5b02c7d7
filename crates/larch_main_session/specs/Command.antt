-- The lines of a session.
use Rattle.std.specs.Prelude.{ℕ, ◌+◌, ◌-◌, ◌*◌, ◌==◌, ◌&&◌, ◌||◌, not, nat_le, if◌then◌else◌, fold, Bool, false}
use Rattle.std.specs.Prelude.{List, [], ◌∷◌, length, Option, Some, None, codes, option_map}
use Rattle.std.specs.Char.{is_ascii_digit}
use Rattle.std.specs.List.{before_first, after_first, list_all}
use Rattle.std.specs.Str.{bytes_eq}
use Rattle.larch_base.specs.FileName.{is_file_name, is_stem}
use Rattle.larch_base.specs.Label.{read_label}
use Rattle.larch_main_session.specs.declared.command.Command.{Command}
use Rattle.larch_main_session.specs.declared.command.Command.TheVariants.{Skip, Put, Drop, Report, Derive, Quit}

-- a space or a tab stands between the words of a line
abbrev pub is_blank : ℕ → Bool
is_blank byte = (byte == 32) || (byte == 9)

abbrev pub are_digits : List ℕ → Bool
are_digits bytes = list_all is_ascii_digit bytes

-- 1 to 8 digits, and the first is 0 only where it is the only one
abbrev pub is_length : List ℕ → Bool
is_length [] = false
is_length (digit ∷ digits) =
    are_digits (digit ∷ digits) && nat_le (length digits) 7 && (not (digit == 48) || (length digits == 0))

-- the number that digits spell
abbrev pub number_of_digits : List ℕ → ℕ
number_of_digits digits = fold (λ number digit. 10 * number + (digit - 48)) 0 digits

-- `put` with these words behind it: the name of a file, and a length
abbrev pub put_of : List ℕ → Option Command
put_of words =
    if is_file_name (before_first is_blank words) && is_length (after_first is_blank words)
    then Some (Put (before_first is_blank words) (number_of_digits (after_first is_blank words)))
    else None

-- `drop` with these words behind it: the name of a file
abbrev pub drop_of : List ℕ → Option Command
drop_of words = if is_file_name words then Some (Drop words) else None

-- `derive` with these words behind it: the name of a trait, and the label of one of its duties
abbrev pub derive_of : List ℕ → Option Command
derive_of words =
    if is_stem (before_first is_blank words)
    then option_map (Derive (before_first is_blank words)) (read_label (after_first is_blank words))
    else None

-- the command of a line, which has no newline; other lines aren't in the grammar
abbrev pub command_of : List ℕ → Option Command
command_of line =
    if bytes_eq line [] then Some Skip
    else if bytes_eq line (codes "report") then Some Report
    else if bytes_eq line (codes "quit") then Some Quit
    else if bytes_eq (before_first is_blank line) (codes "put") then put_of (after_first is_blank line)
    else if bytes_eq (before_first is_blank line) (codes "drop") then drop_of (after_first is_blank line)
    else if bytes_eq (before_first is_blank line) (codes "derive") then derive_of (after_first is_blank line)
    else None
