-- What comes of proof work at a question about files.
use Rattle.std.specs.Prelude.{◌≡◌, ℕ, List, Option}
use Rattle.larch_io.specs.Folder.{FileMap}
use Rattle.larch_words.specs.declared.call.Question.{Question}
use Rattle.larch_words.specs.declared.call.Question.TheVariants.{Derive, Replay}
use Rattle.larch_main_files.specs.declared.answer.Answer.{Answer}
use Rattle.larch_main.specs.Derive.{Worked}
use Rattle.larch_main.specs.Replay.{Replayed, Replays}

-- What comes of proof work at a question, by what was answered: `replay` makes a report, `derive` takes steps as for
-- one, and no other takes any.
abbrev pub Works : Question → List (List ℕ) → Option FileMap → ℕ → ℕ → Option Answer → Type 0
Works (Replay limit) names told before now answer = Replays limit names told before now answer
Works (Derive asked limit) names told before now answer = Worked limit names told before now
Works _ names told before now answer = now ≡ before

-- the same by what was written: the sink held `held` and holds `holds`
abbrev pub QuestionReports : Question → List (List ℕ) → Option FileMap → Option (List ℕ) → Option (List ℕ) → ℕ → ℕ
    → Type 0
QuestionReports (Replay limit) names told held holds before now = Replayed limit names told held holds before now
QuestionReports (Derive asked limit) names told held holds before now = Worked limit names told before now
QuestionReports _ names told held holds before now = now ≡ before
