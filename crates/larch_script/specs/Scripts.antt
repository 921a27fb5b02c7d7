-- Scripts, by their lines.
use Rattle.std.specs.Prelude.{◌≡◌, ◌≢◌, ℕ, suc, ◌+◌, ◌<◌, ◌==◌, if◌then◌else◌, All, List, [], ◌∷◌, length}
use Rattle.std.specs.List.{slice_split}
use Rattle.larch_base.specs.declared.label.Label.{Label}
use Rattle.larch_script_commands.specs.declared.command.CommandKind.{CommandKind}
use Rattle.larch_script_commands.specs.declared.command.RawCommand.{RawCommand}
use Rattle.larch_script_commands.specs.declared.script.Block.{Block}
use Rattle.larch_script_commands.specs.declared.script.Script.{Script}
use Rattle.larch_script.specs.Line.{line_of}
use Rattle.larch_script.specs.declared.line.Line.{Line}
use Rattle.larch_script.specs.declared.line.Line.TheVariants.{Nothing, Duty, Command}

-- no command and no block
abbrev pub empty_script : Script
empty_script = record { preamble = []; blocks = [] }

-- a command of a line
abbrev pub on_line : ℕ → CommandKind → RawCommand
on_line number kind = record { line = number; kind = kind }

-- a block that begins on a line
abbrev pub block : ℕ → Label → List RawCommand → Block
block number label commands = record { line = number; label = label; commands = commands }

-- a script with one line before its others: a duty begins a block of what stands before the next one
abbrev pub with_line : ℕ → Line → Script → Script
with_line number Nothing script = script
with_line number (Command kind) script =
    record { preamble = on_line number kind ∷ script.preamble; blocks = script.blocks }
with_line number (Duty label) script =
    record { preamble = []; blocks = block number label script.preamble ∷ script.blocks }

-- the script of these lines, the first of which has this number
abbrev pub script_from : ℕ → List (List ℕ) → Script
script_from number [] = empty_script
script_from number (line ∷ lines) = with_line number (line_of number line) (script_from (number + 1) lines)

-- the lines of a text: what stands between its newlines
abbrev pub lines_of : List ℕ → List (List ℕ)
lines_of text = slice_split (λ byte. byte == 10) text

-- the script of a text: lines are counted from 1
unfoldable pub script_of : List ℕ → Script
script_of text = script_from 1 (lines_of text)

-- how many bytes stand before the first newline
abbrev pub line_length : List ℕ → ℕ
line_length [] = 0
line_length (byte ∷ bytes) = if byte == 10 then 0 else suc (line_length bytes)

-- a text is a line, a newline and the rest
pub record IsCut (text line rest : List ℕ) : Type 0 where
  pub lines : lines_of text ≡ line ∷ lines_of rest
  pub one_line : All (λ byte. byte ≢ 10) line
  pub shorter : length line + length rest < length text

-- a text is one line, without a newline
pub record IsLastLine (text : List ℕ) : Type 0 where
  pub lines : lines_of text ≡ text ∷ []
  pub one_line : All (λ byte. byte ≢ 10) text
