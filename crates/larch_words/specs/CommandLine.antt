-- The command line: a command, words, and three options, as `clap` reads them.
use Rattle.std.specs.Prelude.{true, ℕ, if◌then◌else◌, List, [], Option, Some, None, codes}
use Rattle.std.specs.Prelude.{unwrap_or}
use Rattle.clap.specs.Lexer.{usize_max}
use Rattle.clap.specs.Simple.{on_top}
use Rattle.clap.specs.Walk.{is_empty}
use Rattle.clap.specs.Words.{App, Rule, Row, all_of, fault_of, first_of, matches_of, new_app, new_rule, with_rule}
use Rattle.clap.specs.declared.builder.action.ArgAction.TheVariants.{Set}

-- the command, which is required
abbrev pub command_rule : Rule
command_rule = record (new_rule (codes "COMMAND")) { required = true }

-- any number of words behind it
abbrev pub words_rule : Rule
words_rule =
    record (new_rule (codes "WORD")) {
      range = Some (record { start_inclusive = 0; end_inclusive = usize_max });
    }

-- an option that takes one value
abbrev pub option_rule : List ℕ → Rule
option_rule name = record (new_rule name) { long = Some name; action = Some Set }

-- the command and the words behind it; none of the words is the program's name
abbrev pub command_and_words : App
command_and_words =
    with_rule
    (with_rule (on_top (λ shape. record shape { no_binary_name = true }) (new_app (codes "larch"))) command_rule)
    words_rule

-- the same with the three options
abbrev pub with_options : App → App
with_options app =
    with_rule
    (with_rule (with_rule app (option_rule (codes "limit"))) (option_rule (codes "seed")))
    (option_rule (codes "size"))

-- the command line
abbrev pub command_line : App
command_line = with_options command_and_words

-- a command, the words behind it, and whether an option was given
pub record Request : Type 0 where
  pub command : List ℕ
  pub words : List (List ℕ)
  pub limit : Option (List ℕ)
  pub seed : Option (List ℕ)
  pub size : Option (List ℕ)

-- what the matches hold
abbrev pub request_in : List Row → Request
request_in rows =
    record {
      command = unwrap_or (first_of (codes "COMMAND") rows) [];
      words = unwrap_or (all_of (codes "WORD") rows) [];
      limit = first_of (codes "limit") rows;
      seed = first_of (codes "seed") rows;
      size = first_of (codes "size") rows;
    }

-- what words ask for, where they have matches
abbrev pub request_of : List (List ℕ) → Option Request
request_of words =
    if is_empty (fault_of command_line words) then Some (request_in (matches_of command_line words)) else None
