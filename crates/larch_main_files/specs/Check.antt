-- What a check of files answers.
use Rattle.larch_traits.specs.Files.{Table}
use Rattle.larch_main_files.specs.Answer.{report_answer}
use Rattle.larch_main_files.specs.Report.{check_of}
use Rattle.larch_main_files.specs.declared.answer.Answer.{Answer}

-- the lines of the check with their totals, and whether they are good
abbrev pub check_answer : Table → Answer
check_answer files = report_answer (check_of files)
