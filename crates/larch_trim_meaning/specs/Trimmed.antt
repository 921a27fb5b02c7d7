-- Certificates without the lines that their ends don't need.
use Rattle.std.specs.Prelude.{if◌then◌else◌, ℕ, Bool, List, [], ◌∷◌, length, take, count_by}
use Rattle.larch_renaming.specs.Renaming.{no_renaming}
use Rattle.larch_certificate.specs.declared.line.Line.{Line}
use Rattle.larch_verify_law.specs.Moves.{Move, moved_line, carry_lines}
use Rattle.larch_trim_meaning.specs.Needed.{needs}
use Rattle.larch_trim_meaning.specs.Reached.{is_marked, reached_marks}

-- the marks of needed lines
abbrev pub needed_marks : List Line → List Bool
needed_marks lines = reached_marks (needs lines) (length lines)

-- the new number of a line: how many lines up to it have a mark
abbrev pub new_number : List Bool → ℕ → ℕ
new_number marks n = count_by (λ b. b) (take n marks)

-- the move by which lines and boxes get other numbers
abbrev pub number_move : (ℕ → ℕ) → Move
number_move f =
    record { line = f; box = f; operator = λ k. k; statement = λ k. k; renaming = no_renaming }

-- a line with a mark, with the new numbers of what it names; without a mark none
abbrev pub kept_line : List Bool → ℕ → Line → List Line
kept_line marks n line =
    if is_marked marks n then moved_line (number_move (new_number marks)) line ∷ [] else []

-- the lines with marks, in order
abbrev pub kept_lines : List Bool → List Line → List Line
kept_lines marks lines = carry_lines (kept_line marks) 1 lines

-- the needed lines in order, with the new numbers of lines and boxes
abbrev pub trim_lines : List Line → List Line
trim_lines lines = kept_lines (needed_marks lines) lines
