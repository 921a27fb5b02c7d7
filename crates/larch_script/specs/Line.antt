-- What a line of a script is.
use Rattle.std.specs.Prelude.{ℕ, ◌==◌, ◌&&◌, Bool, true, false, List, [], ◌∷◌, Option, Some, None, Ok, Err}
use Rattle.std.specs.Prelude.{if◌then◌else◌, codes}
use Rattle.std.specs.Option.{option_map_or}
use Rattle.larch_base.specs.declared.code.Code.TheVariants as code
use Rattle.larch_script_commands.specs.declared.command.CommandKind.TheVariants.{Mark, Bad}
use Rattle.larch_lexer.specs.Lexing.{lexed_line}
use Rattle.larch_lexer.specs.TokenList.{TokenList}
use Rattle.larch_lexer.specs.TokenTable.{LexAnswer, begins_with, is_blank}
use Rattle.larch_script.specs.Commands.{command_of, duty}
use Rattle.larch_script.specs.Texts.{ends, says}
use Rattle.larch_script.specs.declared.line.Line.{Line}
use Rattle.larch_script.specs.declared.line.Line.TheVariants.{Nothing, Duty, Command}

-- the mark that a byte begins, where some bytes stand behind it: true for `[]`, false for `<>`
abbrev pub mark_at : ℕ → List ℕ → Option Bool
mark_at byte rest =
    if (byte == 91) && begins_with 93 rest then Some true
    else if (byte == 60) && begins_with 62 rest then Some false
    else None

-- the mark behind the blanks of a line, whatever follows it
abbrev pub mark_of : List ℕ → Option Bool
mark_of [] = None
mark_of (byte ∷ rest) = if is_blank byte then mark_of rest else mark_at byte rest

-- a line that is no command
abbrev pub no_command : Line
no_command = Command (Bad code.Command)

-- what tokens are, of which there is at least one: `duty` begins a block where a label follows
abbrev pub said : TokenList → Line
said all =
    if says all.tokens 0 (codes "duty") then option_map_or Duty (duty all.tokens) no_command
    else option_map_or Command (command_of all) no_command

-- what the tokens of a line are
abbrev pub line_from : LexAnswer → Line
line_from (Ok all) = if ends all.tokens 0 then Nothing else said all
line_from (Err position) = Command (Bad code.Lex)

-- what the line of a number is: a mark isn't looked at further
abbrev pub line_of : ℕ → List ℕ → Line
line_of number line =
    option_map_or (λ proved. Command (Mark proved)) (mark_of line) (line_from (lexed_line number line))
