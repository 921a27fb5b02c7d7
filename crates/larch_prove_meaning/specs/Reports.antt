-- What a report says of a trait's duties and its script.
use Rattle.std.specs.Prelude.{ℕ, suc, ◌-◌, ◌==◌, ◌&&◌, Bool, true, false, not, if◌then◌else◌, List, [], ◌∷◌, ◌++◌}
use Rattle.std.specs.Prelude.{map, filter, Option, Some, None}
use Rattle.std.specs.List.{list_any}
use Rattle.larch_base.specs.declared.code.Code.{Code}
use Rattle.larch_base.specs.declared.code.Code.TheVariants.{UnknownDuty, DutyTwice}
use Rattle.larch_base.specs.declared.label.Label.{Label}
use Rattle.larch_script_commands.specs.declared.command.RawCommand.{RawCommand}
use Rattle.larch_script_commands.specs.declared.script.Block.{Block}
use Rattle.larch_script_commands.specs.declared.script.Script.{Script}
use Rattle.larch_term.specs.Tree.{Tree}
use Rattle.larch_prove_meaning.specs.Levels.{EarlierDuty}
use Rattle.larch_prove_meaning.specs.Replays.{Outcome, Proved, Suspended, Refused, RefusalPlace, InPreamble, AtOpening}
use Rattle.larch_prove_meaning.specs.Replays.{AtCommand, Duty, replay}
use Rattle.larch_prove_meaning.specs.Scripts.{ClaimedDuty, block_of, commands_of, same_label}

-- a duty with its number among those of the trait, from 1, and its outcome
pub record Answered : Type 0 where
  pub number : ℕ
  pub duty : ClaimedDuty
  pub outcome : Outcome

-- whether an outcome is that all is proved
abbrev pub is_proved : Outcome → Bool
is_proved Proved = true
is_proved (Suspended n goal) = false
is_proved (Refused refused) = false

-- whether a duty belongs to no `converts` clause, or to this one
abbrev pub may_serve : Option ℕ → Option ℕ → Bool
may_serve None clause = true
may_serve (Some n) None = false
may_serve (Some n) (Some m) = n == m

-- the lemmas of a duty: the earlier duties that are proved and are no conversions, or are so of the same clause
abbrev pub lemmas_for : ClaimedDuty → List Answered → List EarlierDuty
lemmas_for duty earlier =
    map (λ a. record { number = a.number; statement = a.duty.statement })
    (filter (λ a. is_proved a.outcome && may_serve a.duty.clause duty.clause) earlier)

-- the commands of a block, none where there is no block
abbrev pub commands_in : Option Block → List RawCommand
commands_in None = []
commands_in (Some b) = b.commands

-- what is replayed for a duty
abbrev pub replayed_for : ClaimedDuty → List Answered → Duty
replayed_for duty earlier =
    record { theory = duty.theory; statement = duty.statement; lemmas = lemmas_for duty earlier }

-- the outcome of a duty by its script
abbrev pub outcome_for : ℕ → Script → List Answered → ClaimedDuty → Outcome
outcome_for limit script earlier duty =
    replay (replayed_for duty earlier) limit (commands_of script.preamble)
    (commands_of (commands_in (block_of script duty.label)))

-- the duties of a trait with their outcomes, in order, behind those that were answered before
abbrev pub all_answered : ℕ → Script → List Answered → ℕ → List ClaimedDuty → List Answered
all_answered limit script earlier k [] = earlier
all_answered limit script earlier k (d ∷ ds) =
    let a : Answered = record { number = k; duty = d; outcome = outcome_for limit script earlier d } in
    all_answered limit script (earlier ++ a ∷ []) (suc k) ds

-- the line of a command with a number, from 1; what is refused is always one of them
abbrev pub line_at : List RawCommand → ℕ → ℕ
line_at [] k = 0
line_at (c ∷ cs) k = if k == 1 then c.line else line_at cs (k - 1)

-- the line of a block, 0 where there is none
abbrev pub line_of_block : Option Block → ℕ
line_of_block None = 0
line_of_block (Some b) = b.line

-- the line of a script at which a duty is refused
abbrev pub line_of_place : Script → Option Block → RefusalPlace → ℕ
line_of_place script block (InPreamble k) = line_at script.preamble k
line_of_place script block AtOpening = line_of_block block
line_of_place script block (AtCommand k) = line_at (commands_in block) k

-- a line of a report on a trait that is right
pub data TraitLine : Type 0 where
  DutyProved : Label → TraitLine
  DutySuspended : Label → ℕ → Tree → TraitLine
  DutyRefused : Label → ℕ → Code → TraitLine
  -- a line of the script, which begins a block that isn't replayed
  ScriptFault : ℕ → Code → TraitLine

-- the line of a duty by its outcome
abbrev pub line_for : Script → Label → Outcome → TraitLine
line_for script label Proved = DutyProved label
line_for script label (Suspended n goal) = DutySuspended label n goal
line_for script label (Refused refused) =
    DutyRefused label (line_of_place script (block_of script label) refused.place) refused.code

-- the lines of blocks: of those whose label is no duty's, and of those whose label an earlier block had
abbrev pub script_lines : List Label → List Label → List Block → List TraitLine
script_lines duties earlier [] = []
script_lines duties earlier (b ∷ bs) =
    if not (list_any (same_label b.label) duties)
    then (ScriptFault b.line UnknownDuty ∷ script_lines duties (b.label ∷ earlier) bs) else
    if list_any (same_label b.label) earlier
    then (ScriptFault b.line DutyTwice ∷ script_lines duties (b.label ∷ earlier) bs)
    else script_lines duties (b.label ∷ earlier) bs

-- the lines of a trait's duties, and of its script behind them
abbrev pub trait_lines : ℕ → Script → List ClaimedDuty → List TraitLine
trait_lines limit script duties =
    map (λ a. line_for script a.duty.label a.outcome) (all_answered limit script [] 1 duties)
    ++ script_lines (map (λ d. d.label) duties) [] script.blocks
