-- What a call of the program does, by what its words ask for, its folder, its input and its status.
use Rattle.std.specs.Prelude.{◌≡◌, ◌⊎◌, Bool, true, false, ℕ, List, [], ◌++◌, Option, Result, Ok, Err, MatchBool, codes}
use Rattle.std.specs.Io.KnownBytes.{Appends}
use Rattle.larch_io.specs.Folder.{FileMap}
use Rattle.larch_main_session.specs.Endings.{BreaksOff, TakesInput}
use Rattle.larch_main_session.specs.Reports.{Reported}
use Rattle.larch_main_session.specs.Session.{State, IsInput, Session, SessionBegins, start, with_status}
use Rattle.larch_words.specs.declared.call.Call.{Call}
use Rattle.larch_words.specs.declared.call.Call.TheVariants as call_
use Rattle.larch_words.specs.declared.call.Question.TheVariants.{Derive, Trim, Verify}
use Rattle.larch_main_status.specs.declared.status.Status.{Status}
use Rattle.larch_main_status.specs.declared.status.Status.TheVariants.{Good, Remains, Words, ReadFault, WriteFault}
use Rattle.larch_main_status.specs.declared.status.Status.TheVariants.{Memory}
use Rattle.larch_main_status.specs.declared.status.Status.TheVariants.{Malformed, Size, NoFile}
use Rattle.larch_main_files.specs.Answer.{IsAnswer, said}
use Rattle.larch_main_files.specs.Derive.{IsDerivation}
use Rattle.larch_main_files.specs.Gather.{IsFolder}
use Rattle.larch_main_files.specs.Look.{GatherFaults}
use Rattle.larch_main_files.specs.Migrate.{MayMigrate}
use Rattle.larch_main_files.specs.Questions.{MayAnswer}
use Rattle.larch_main.specs.Generate.{Generates, generation_answer}
use Rattle.larch_main.specs.Questions.{QuestionReports}
use Rattle.larch_main_files.specs.Verify.{IsShown}
use Rattle.larch_main_files.specs.declared.answer.Answer.{Answer}
use Rattle.larch_main_files.specs.declared.gather.GatherRefusal.{GatherRefusal}

abbrev pub usage_text : List ℕ
usage_text = codes "usage: larch COMMAND [WORD..] [--limit N] [--seed N] [--size N]\n"

-- for this call, on this folder and this input, the program writes `output` and ends with `status`
abbrev pub Output : Call → FileMap → List ℕ → List ℕ → Status → Type 0
Output (call_.Session limit) folder input output status =
    (last : State) × Session true (start limit) input output (with_status status) last
Output (call_.OnFiles question names) folder input output status = MayAnswer question names folder output status
Output (call_.Migrate certificate) folder input output status = MayMigrate certificate folder output status
Output (call_.Generate traits) folder input output status = IsAnswer (generation_answer traits) output status
Output call_.Nothing folder input output status = IsAnswer (said usage_text Words) output status

-- for this call, on this folder and this input, these bytes are a front of what the program writes; where there are
-- none, whatever it writes
abbrev pub Begins : Call → FileMap → List ℕ → List ℕ → Type 0
Begins (call_.Session limit) folder input front = SessionBegins (start limit) input front
Begins (call_.OnFiles question names) folder input front =
    (front ≡ []) ⊎ ((rest : List ℕ) × (status : Status) × MayAnswer question names folder (front ++ rest) status)
Begins (call_.Migrate certificate) folder input front =
    (front ≡ []) ⊎ ((rest : List ℕ) × (status : Status) × MayMigrate certificate folder (front ++ rest) status)
Begins (call_.Generate traits) folder input front =
    (rest : List ℕ) × ((generation_answer traits).text ≡ front ++ rest)
Begins call_.Nothing folder input front = (rest : List ℕ) × (usage_text ≡ front ++ rest)

-- a call reads the source: only a session does
abbrev pub reads_source : Call → Bool
reads_source (call_.Session limit) = true
reads_source (call_.OnFiles question names) = false
reads_source (call_.Migrate certificate) = false
reads_source (call_.Generate traits) = false
reads_source call_.Nothing = false

-- a call looks at the folder: each one that names a file does
abbrev pub reads_folder : Call → Bool
reads_folder (call_.Session limit) = false
reads_folder (call_.OnFiles question names) = true
reads_folder (call_.Migrate certificate) = true
reads_folder (call_.Generate traits) = false
reads_folder call_.Nothing = false

-- The folder tells these files; the source had `left` before the call and has `leaves` after it, the sink held `held`
-- and holds `holds`.
module _ (call : Call) (told : Option FileMap) (left leaves held holds : Option (List ℕ)) where
  -- a defined output was written, whole
  pub record Answers (status : Status) : Type 0 where
    pub folder : FileMap
    pub input : List ℕ
    pub output : List ℕ
    pub is_folder : IsFolder told folder
    pub is_input : IsInput left input
    pub defined : Output call folder input output status
    pub written : Appends held holds output

  -- a front of a defined output was written
  pub record WritesFront : Type 0 where
    pub folder : FileMap
    pub input : List ℕ
    pub front : List ℕ
    pub is_folder : IsFolder told folder
    pub is_input : IsInput left input
    pub begins : Begins call folder input front
    pub written : Appends held holds front

-- what was written before a fault of what is read: a session's replies; nothing by another call
abbrev pub WritesBefore : Call → Option (List ℕ) → Option (List ℕ) → Option (List ℕ) → Option (List ℕ) → Type 0
WritesBefore (call_.Session limit) left leaves held holds = BreaksOff limit left leaves held holds
WritesBefore (call_.OnFiles question names) left leaves held holds = Appends held holds []
WritesBefore (call_.Migrate certificate) left leaves held holds = Appends held holds []
WritesBefore (call_.Generate traits) left leaves held holds = ⊥
WritesBefore call_.Nothing left leaves held holds = ⊥

-- what was written, by the status
module _ (call : Call) (told : Option FileMap) (left leaves held holds : Option (List ℕ)) where
  abbrev pub Writes : Status → Type 0
  Writes ReadFault = WritesBefore call left leaves held holds
  Writes WriteFault = WritesFront call told left leaves held holds
  Writes Memory = WritesFront call told left leaves held holds
  Writes Good = Answers call told left leaves held holds Good
  Writes Remains = Answers call told left leaves held holds Remains
  Writes Words = Answers call told left leaves held holds Words
  Writes Malformed = Answers call told left leaves held holds Malformed
  Writes Size = Answers call told left leaves held holds Size
  Writes NoFile = Answers call told left leaves held holds NoFile

-- What a call shows by its status, on some folder, the told one where it is told: `verify` or `trim` that ends well
-- shows that what was to be verified is so, and `derive` that ends well has written what `verify` accepts. The sink
-- held `held` and holds `holds`.
abbrev pub Shows : Call → Option FileMap → Option (List ℕ) → Option (List ℕ) → Status → Type 0
Shows (call_.OnFiles (Verify asked) names) told held holds Good =
    (folder : FileMap) × IsFolder told folder × IsShown folder asked names
Shows (call_.OnFiles (Trim asked) names) told held holds Good =
    (folder : FileMap) × IsFolder told folder × IsShown folder asked names
Shows (call_.OnFiles (Derive asked limit) names) told held holds Good =
    (folder : FileMap) × IsFolder told folder
    × (output : List ℕ) × Appends held holds output × IsDerivation folder asked names output
Shows _ told held holds status = Unit {0}

-- What comes of a call's reports and derivations: each duty that one calls proved, or derives, of which something was
-- written is derivable from its own theory, and the steps are at most those of its reports and derivations; a call that
-- makes none takes no step. The source had `left` before the call.
abbrev pub CallReports : Call → Option FileMap → Option (List ℕ) → Option (List ℕ) → Option (List ℕ) → ℕ → ℕ → Type 0
CallReports (call_.Session limit) told left held holds before now = Reported limit left held holds before now
CallReports (call_.OnFiles question names) told left held holds before now =
    QuestionReports question names told held holds before now
CallReports (call_.Migrate certificate) told left held holds before now = now ≡ before
CallReports (call_.Generate traits) told left held holds before now = Generates traits held holds before now
CallReports call_.Nothing told left held holds before now = now ≡ before

-- what a call says of its input: only a session has one
abbrev pub CallTakes : Call → Option (List ℕ) → Option (List ℕ) → Option (List ℕ) → Option (List ℕ) → Status → Type 0
CallTakes (call_.Session limit) left leaves held holds status = TakesInput limit left leaves held holds status
CallTakes (call_.OnFiles question names) left leaves held holds status = Unit {0}
CallTakes (call_.Migrate certificate) left leaves held holds status = Unit {0}
CallTakes (call_.Generate traits) left leaves held holds status = Unit {0}
CallTakes call_.Nothing left leaves held holds status = Unit {0}

-- a status says that the source failed
abbrev pub source_failed : Call → Status → Bool
source_failed call ReadFault = reads_source call
source_failed call _ = false

-- a status says that the folder failed
abbrev pub folder_failed : Call → Status → Bool
folder_failed call ReadFault = reads_folder call
folder_failed call _ = false

-- what was answered, or refused, says of the count of the folder's faults
abbrev pub AnswerFaults : Result Answer GatherRefusal → ℕ → ℕ → Type 0
AnswerFaults (Ok answer) before now = now ≡ before
AnswerFaults (Err refusal) before now = GatherFaults refusal before now

-- a call that doesn't read the source leaves it as it was
abbrev pub KeepsSource : {A : Type 0} → Call → A → A → Type 0
KeepsSource call before now = MatchBool (reads_source call) (Unit {0}) (now ≡ before)

-- a call that names no files doesn't look at the folder: its count and its files stay
abbrev pub KeepsFolder : {A : Type 0} → Call → A → A → Type 0
KeepsFolder call before now = MatchBool (reads_folder call) (Unit {0}) (now ≡ before)
