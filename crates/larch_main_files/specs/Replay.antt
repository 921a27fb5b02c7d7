-- What a replay of files answers.
use Rattle.std.specs.Prelude.{ℕ}
use Rattle.larch_session_meaning.specs.Files.{report_of}
use Rattle.larch_traits.specs.Files.{Table}
use Rattle.larch_main_files.specs.Answer.{report_answer}
use Rattle.larch_main_files.specs.declared.answer.Answer.{Answer}

-- the report on the files with its totals, and whether it is good
abbrev pub replay_answer : ℕ → Table → Answer
replay_answer limit files = report_answer (report_of limit files)
