-- The new numbers of lines and boxes as code has them.
use Rattle.std.specs.Prelude.{if◌then◌else◌, ℕ, ◌==◌}
use Rattle.std.specs.Option.{option_map_or}
use Rattle.larch_base.specs.ByNumber.{numbered}
use Rattle.larch_verify_law.specs.Moves.{Move}
use Rattle.larch_trim_meaning.specs.Trimmed.{number_move}
use Rattle.larch_trim.specs.declared.numbers.NewNumbers.{NewNumbers}

-- the new number of a line: from the table; behind its end, that of the last line
abbrev pub number_at : NewNumbers → ℕ → ℕ
number_at s n = if n == 0 then 0 else option_map_or (λ k. k) (numbered s.numbers n) s.all

abbrev pub move_of : NewNumbers → Move
move_of s = number_move (number_at s)
