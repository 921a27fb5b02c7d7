-- What was replayed, as the definitions have it.
use Rattle.std.specs.Prelude.{◌≡◌, ℕ, List, [], ◌∷◌, ◌++◌, All, map, Result}
use Rattle.larch_prove.specs.State.{IsStateOf, told_outcome}
use Rattle.larch_prove_meaning.specs.InWords.{IsStatementInWords}
use Rattle.larch_prove_meaning.specs.Levels.{Proof}
use Rattle.larch_prove_meaning.specs.Named.{HaveDifferentNumbers}
use Rattle.larch_prove_meaning.specs.Replays.{Refusal, outcome_of, replay_block}
use Rattle.larch_prove_meaning.specs.Reports.{Answered, TraitLine, commands_in, lemmas_for, line_for, replayed_for}
use Rattle.larch_prove_meaning.specs.Reports.{script_lines}
use Rattle.larch_prove_meaning.specs.Scripts.{ClaimedDuty, block_of, commands_of}
use Rattle.larch_prove_meaning.specs.WellSorted.{AreLemmasOver}
use Rattle.larch_script_commands.specs.declared.script.Script.{Script}
use Rattle.larch_session_sources.specs.SessionLawClaims.{IsClaim}
use Rattle.larch_session_blocks.specs.SessionMeaningTraits.{script_duty}
use Rattle.larch_session_replay.specs.declared.replayed.Replayed.{Replayed}

-- a duty with its number and its outcome
abbrev pub answer_of : Replayed → Answered
answer_of r = record { number = r.number; duty = script_duty r.claim; outcome = told_outcome r.outcome }

-- what the block of a duty comes to, behind these earlier ones
abbrev pub come_to : ℕ → Script → List Answered → ClaimedDuty → Result Proof Refusal
come_to limit script earlier d =
    replay_block (replayed_for d earlier) limit (commands_of script.preamble)
    (commands_of (commands_in (block_of script d.label)))

-- a duty was replayed behind these earlier ones: the state is one of what its block comes to, and the outcome is that
pub record IsReplay (limit : ℕ) (script : Script) (earlier : List Answered) (r : Replayed) : Type 0 where
  pub state : IsStateOf r.claim.statement r.state (come_to limit script earlier (script_duty r.claim))
  pub outcome : told_outcome r.outcome ≡ outcome_of (come_to limit script earlier (script_duty r.claim))

-- so was each of these
abbrev pub AreReplays : ℕ → Script → List Answered → List Replayed → Type 0
AreReplays limit script earlier [] = Unit {0}
AreReplays limit script earlier (r ∷ rs) =
    IsReplay limit script earlier r × AreReplays limit script (earlier ++ answer_of r ∷ []) rs

-- a duty can be replayed behind these earlier ones: its lemmas are well sorted over its theory and in words, and have
-- different numbers
pub record CanFollow (earlier : List Answered) (d : ClaimedDuty) : Type 0 where
  pub claim : IsClaim d
  pub over : AreLemmasOver d.theory.operators (lemmas_for d earlier)
  pub words : All (λ l. IsStatementInWords l.statement) (lemmas_for d earlier)
  pub numbers : HaveDifferentNumbers (lemmas_for d earlier)

-- the lines of duties that are answer_of, and of their script behind them
abbrev pub answer_lines : Script → List Answered → List TraitLine
answer_lines script answers =
    map (λ a. line_for script a.duty.label a.outcome) answers
    ++ script_lines (map (λ a. a.duty.label) answers) [] script.blocks
