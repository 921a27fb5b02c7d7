-- What is answered to a call that names files: a text and a status.
use Rattle.std.specs.Prelude.{◌≡◌, if◌then◌else◌, ℕ, Bool, List, ◌++◌, codes, Result, Ok, Err, Option, Some, None}
use Rattle.larch_main_status.specs.Say.{Says}
use Rattle.larch_report.specs.Counts.{counts_of, is_good}
use Rattle.larch_report.specs.Text.{report_text}
use Rattle.larch_report.specs.declared.line.ReportLine.{ReportLine}
use Rattle.larch_main_files.specs.declared.answer.Answer.{Answer}
use Rattle.larch_main_files.specs.Gather.{Gathered, Whole, Absent, TooLarge}
use Rattle.larch_main_files.specs.declared.gather.GatherRefusal.{GatherRefusal}
use Rattle.larch_main_files.specs.declared.gather.GatherRefusal.TheVariants as refusal_
use Rattle.larch_main_status.specs.declared.halt.Halt.{Halt}
use Rattle.larch_main_status.specs.declared.halt.Halt.TheVariants.{ReadFault, Memory}
use Rattle.larch_main_status.specs.declared.status.Status.{Status}
use Rattle.larch_main_status.specs.declared.status.Status.TheVariants as status_

-- this text, and this status beside it
abbrev pub said : List ℕ → Status → Answer
said text status = record { text = text; status = status }

-- whether all is good, as a status
abbrev pub good_or_remains : Bool → Status
good_or_remains good = if good then status_.Good else status_.Remains

-- a report with these lines: its text, and whether in it nothing is wrong and all is proved
abbrev pub report_answer : List ReportLine → Answer
report_answer lines = said (report_text lines) (good_or_remains (is_good (counts_of lines)))

-- there is no file of this name
abbrev pub no_file : List ℕ → Answer
no_file name = said (codes "no file " ++ (name ++ codes "\n")) status_.NoFile

-- a limit is passed
abbrev pub size_passed : Answer
size_passed = said (codes "too large\n") status_.Size

-- what is answered where something isn't gathered; to a fault of the folder or of memory nothing is
abbrev pub answer_to : GatherRefusal → Option Answer
answer_to (refusal_.Absent name) = Some (no_file name)
answer_to refusal_.TooLarge = Some size_passed
answer_to refusal_.ReadFault = None
answer_to refusal_.Memory = None

-- the answer that was made, or that to why none was
abbrev pub answer_of : Result Answer GatherRefusal → Option Answer
answer_of (Ok answer) = Some answer
answer_of (Err refusal) = answer_to refusal

-- the answer, where there is one
abbrev pub made_of : Result Answer Halt → Option Answer
made_of (Ok answer) = Some answer
made_of (Err halt) = None

-- this text and this status are an answer's
abbrev pub IsAnswer : Answer → List ℕ → Status → Type 0
IsAnswer answer text status = (text ≡ answer.text) × (status ≡ answer.status)

-- by what was found, this text and this status may be answered: to that, or to why it wasn't
abbrev pub AnswersBy : {A : Type 0} → (A → List ℕ → Status → Type 0) → Gathered A → List ℕ → Status → Type 0
AnswersBy Told (Whole found) text status = Told found text status
AnswersBy Told (Absent name) text status = IsAnswer (no_file name) text status
AnswersBy Told TooLarge text status = IsAnswer size_passed text status

-- what becomes of what is answered: it is written as the last text; or nothing is, where there was no answer
abbrev pub TellsAnswer : Option (List ℕ) → Option (List ℕ) → ℕ → ℕ → Result Answer Halt → Status → Type 0
TellsAnswer held holds before now (Ok answer) result = Says held holds before now answer.text answer.status result
TellsAnswer held holds before now (Err ReadFault) result =
    (result ≡ status_.ReadFault) × (holds ≡ held) × (now ≡ before)
TellsAnswer held holds before now (Err Memory) result = (result ≡ status_.Memory) × (holds ≡ held) × (now ≡ before)
