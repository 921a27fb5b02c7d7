-- Calls that write one text at their end, and what no fault leaves.
use Rattle.std.proofs.Common.{◌≡◌, ◌≢◌, ℕ, inl, inr, Bool, true, false, List, [], ◌++◌, Option, Result, Ok, Err}
use Rattle.std.proofs.Common.{◌≤◌, ◌+◌, refl, sym, subst, ap, ◌∙◌, arith}
use Rattle.std.proofs.KnownBytes.{Consumes-nil, Appends-nil}
use Rattle.std.specs.Prelude.{IfErr, IfOk, MatchBool, OnOk}
use Rattle.std.specs.Io.KnownBytes.{Appends}
use Rattle.larch_base.specs.declared.limits.TheConstants.{DEFAULT_REWRITING_LIMIT}
use Rattle.larch_io.specs.Faults.{Rose}
use Rattle.larch_io.specs.Folder.{FileMap}
use Rattle.larch_io.specs.Put.{PutsFront}
use Rattle.larch_words.specs.Call.{call_of, is_certificate, is_model}
use Rattle.larch_words.specs.declared.call.Call.{Call}
use Rattle.larch_words.specs.declared.call.Trial.{Trial}
use Rattle.larch_words.specs.declared.call.Verification.{Verification}
use Rattle.larch_words.specs.declared.call.Call.TheVariants as call_
use Rattle.larch_words.specs.declared.call.Question.{Question}
use Rattle.larch_words.specs.declared.call.Question.TheVariants.{Check, Complete, Derive, Model, Obligations}
use Rattle.larch_words.specs.declared.call.Question.TheVariants.{Replay, Trim, Verify}
use Rattle.larch_words.specs.declared.call.Generation.{Generation}
use Rattle.larch_main_files.specs.Answer.{TellsAnswer}
use Rattle.larch_main_files.specs.declared.answer.Answer.{Answer}
use Rattle.larch_main_files.specs.declared.gather.GatherRefusal.{GatherRefusal}
use Rattle.larch_main_status.specs.declared.halt.Halt.{Halt}
use Rattle.larch_main_status.specs.declared.halt.Halt.TheVariants as halt_
use Rattle.larch_main_status.specs.declared.status.Status.{Status}
use Rattle.larch_main_status.specs.declared.status.Status.TheVariants.{Good, Remains, Words, ReadFault, WriteFault}
use Rattle.larch_main_status.specs.declared.status.Status.TheVariants.{Memory, Malformed, Size, NoFile}
use Rattle.larch_main_files.specs.Gather.{IsFolder}
use Rattle.larch_main_files.specs.Look.{GatherFaults}
use Rattle.larch_main_files.specs.Migrate.{Migrated}
use Rattle.larch_main_files.specs.Questions.{Answered, IsCertified, NamesModel, TrimsCertificate}
use Rattle.larch_report.specs.Counts.{counts_of, is_good}
use Rattle.larch_main_files.specs.SessionMeaningFiles.{report_of}
use Rattle.larch_main.specs.Generate.{Generates, IsGenerationJustified, generated_table, generation_answer}
use Rattle.larch_main.specs.Generate.{generation_steps}
use Rattle.larch_main.specs.Running.{usage_text, Output, Answers, Begins, WritesBefore, WritesFront, Writes}
use Rattle.larch_main.specs.Running.{AnswerFaults, CallReports}
use Rattle.larch_main.specs.Running.{CallTakes, KeepsFolder, KeepsSource, folder_failed, source_failed, Shows}
use Rattle.larch_main.specs.Running.{reads_folder, reads_source}
use Rattle.larch_main_status.specs.Faults.{Counts, sink_failed}
use Rattle.larch_main_status.specs.Faults.{HaltFaults}
use Rattle.larch_main_status.specs.Say.{Says}
use Rattle.larch_main_files.specs.Trim.{IsTrimmed}
use Rattle.larch_main_files.specs.Verify.{IsShown}
use Rattle.larch_main_session.proofs.Endings.{known_rest, input_is, nothing_reported, nothing_yet}
use Rattle.larch_main_files.proofs.Derived.{derived_accepted}
use Rattle.larch_main_files.proofs.Said.{IsSaid, answer_is_said, either_said, migration_said, ok_says, said_sink}
use Rattle.larch_main_status.proofs.Statuses.{quiet}
use Rattle.larch_main.proofs.Replaying.{folder_is, known_files, nothing_replayed, nothing_worked}
use Rattle.larch_main.proofs.Sessions.{session_front}

writes_said : (call : Call) (told : Option FileMap) (left leaves held holds : Option (List ℕ)) (status : Status)
    → IsSaid status
    → Answers call told left leaves held holds status → Writes call told left leaves held holds status
writes_said call told left leaves held holds Good is a = a
writes_said call told left leaves held holds Remains is a = a
writes_said call told left leaves held holds Words is a = a
writes_said call told left leaves held holds Malformed is a = a
writes_said call told left leaves held holds Size is a = a
writes_said call told left leaves held holds NoFile is a = a
writes_said call told left leaves held holds ReadFault is a = absurd is
writes_said call told left leaves held holds WriteFault is a = absurd is
writes_said call told left leaves held holds Memory is a = absurd is

-- what begins the output of a call that is no session is a front of it
output_begins : (call : Call) → reads_source call ≡ false → (folder : FileMap) (input front rest : List ℕ)
    (status : Status) → Output call folder input (front ++ rest) status → Begins call folder input front
output_begins (call_.Session limit) none folder input front rest status is = absurd cc
output_begins (call_.OnFiles question names) none folder input front rest status is = inr (rest, status, is)
output_begins (call_.Migrate certificate) none folder input front rest status is = inr (rest, status, is)
output_begins (call_.Generate traits) none folder input front rest status is = (rest, sym is.0)
output_begins call_.Nothing none folder input front rest status is = (rest, sym is.0)

-- nothing was written
nothing_of : (call : Call) (told : Option FileMap) (left held : Option (List ℕ))
    → Begins call (known_files told) (known_rest left) [] → WritesFront call told left left held held
nothing_of call told left held begins = record {
  folder = known_files told;
  input = known_rest left;
  front = [];
  is_folder = folder_is told;
  is_input = input_is left left [] (Consumes-nil left);
  begins = begins;
  written = Appends-nil held;
}

-- nothing was written, and memory ran out
pub nothing_written : (call : Call) (told : Option FileMap) (left held : Option (List ℕ))
    → WritesFront call told left left held held
nothing_written (call_.Session limit) told left held =
    session_front limit told left left held held (nothing_yet limit left held 0)
nothing_written (call_.OnFiles question names) told left held =
    nothing_of (call_.OnFiles question names) told left held (inl refl)
nothing_written (call_.Migrate certificate) told left held =
    nothing_of (call_.Migrate certificate) told left held (inl refl)
nothing_written (call_.Generate traits) told left held =
    nothing_of (call_.Generate traits) told left held ((generation_answer traits).text, refl)
nothing_written call_.Nothing told left held = nothing_of call_.Nothing told left held (usage_text, refl)

module _ (call : Call) (none : reads_source call ≡ false) (told : Option FileMap)
    (left held kept : Option (List ℕ)) where
  module _ (folder : FileMap) (text : List ℕ) (status : Status) (is : IsFolder told folder)
      (defined : Output call folder (known_rest left) text status) where
    whole : Appends held kept text → Answers call told left left held kept status
    whole put = record {
      folder = folder;
      input = known_rest left;
      output = text;
      is_folder = is;
      is_input = input_is left left [] (Consumes-nil left);
      defined = defined;
      written = put;
    }

    cut : PutsFront held kept text → WritesFront call told left left held kept
    cut put = record {
      folder = folder;
      input = known_rest left;
      front = put.0;
      is_folder = is;
      is_input = input_is left left [] (Consumes-nil left);
      begins =
          output_begins call none folder (known_rest left) put.0 put.1 status
          (subst (λ t. Output call folder (known_rest left) t status) put.2 defined);
      written = put.4;
    }

    -- a text that is the output was to be written
    pub said_writes : IsSaid status → (before now : ℕ) (result : Status) → Says held kept before now text status result
        → Writes call told left left held kept result
    said_writes says before now result said = elim said [
      | inl said_all ↦
          subst (Writes call told left left held kept) (sym said_all.0)
          (writes_said call told left left held kept status says (whole said_all.1))
      | inr front ↦ elim front [
        | inl failed ↦ subst (Writes call told left left held kept) (sym failed.0) (cut failed.1)
        | inr lacking ↦ subst (Writes call told left left held kept) (sym lacking.0) (cut lacking.1)
      ]
    ]

-- what a status that is said says of the folder
module _ (status : Status) (says : IsSaid status) where
  no_folder_fault : (call : Call) (s : Status) → IsSaid s → folder_failed call s ≡ false
  no_folder_fault call Good is = refl
  no_folder_fault call Remains is = refl
  no_folder_fault call Words is = refl
  no_folder_fault call Malformed is = refl
  no_folder_fault call Size is = refl
  no_folder_fault call NoFile is = refl
  no_folder_fault call ReadFault is = absurd is
  no_folder_fault call WriteFault is = absurd is
  no_folder_fault call Memory is = absurd is

  pub said_folder : (call : Call) (held kept : Option (List ℕ)) (before now : ℕ) (text : List ℕ) (result : Status)
      (first last : ℕ) → last ≡ first
      → Says held kept before now text status result → Counts (folder_failed call result) first last
  said_folder call held kept before now text result first last same said = elim said [
    | inl whole ↦
        subst (λ r. Counts (folder_failed call r) first last) (sym whole.0)
        (quiet (folder_failed call status) first last (no_folder_fault call status says) same)
    | inr front ↦ elim front [
      | inl failed ↦ subst (λ r. Counts (folder_failed call r) first last) (sym failed.0) same
      | inr lacking ↦ subst (λ r. Counts (folder_failed call r) first last) (sym lacking.0) same
    ]
  ]

-- what was answered to a call that looks at the folder says whether that failed
pub told_folder : (call : Call) → reads_folder call ≡ true → (answered : Result Answer Halt)
    → IfOk answered (λ answer. IsSaid answer.status) → (held kept : Option (List ℕ)) (before now : ℕ) (result : Status)
    (first last : ℕ) → OnOk answered (last ≡ first) → IfErr answered (λ halt. HaltFaults halt first last)
    → TellsAnswer held kept before now answered result → Counts (folder_failed call result) first last
told_folder call reads (Ok answer) says held kept before now result first last fine failed tells =
    said_folder answer.status says call held kept before now answer.text result first last fine tells
told_folder call reads (Err halt_.ReadFault) says held kept before now result first last fine failed tells =
    subst (λ r. Counts (folder_failed call r) first last) (sym tells.0)
    (subst (λ b. Counts b first last) (sym reads) failed)
told_folder call reads (Err halt_.Memory) says held kept before now result first last fine failed tells =
    subst (λ r. Counts (folder_failed call r) first last) (sym tells.0) failed

-- what may be answered to a call that is no session was to be written
module _ (call : Call) (none : reads_source call ≡ false) (told : Option FileMap) (May : Answer → Type 0)
    (defined : (answer : Answer) → May answer → (folder : FileMap) × IsFolder told folder
    × ((input : List ℕ) → Output call folder input answer.text answer.status))
    (says : (answer : Answer) → May answer → IsSaid answer.status)
    (silent : (left held : Option (List ℕ)) → WritesBefore call left left held held) where
  told_writes : (answered : Result Answer Halt) → IfOk answered May → (left held kept : Option (List ℕ))
      (before now : ℕ) (result : Status) → TellsAnswer held kept before now answered result
      → Writes call told left left held kept result
  told_writes (Ok answer) by left held kept before now result tells =
      let d = defined answer by in
      said_writes call none told left held kept d.0 answer.text answer.status d.1 (d.2 (known_rest left))
      (says answer by) before now result tells
  told_writes (Err halt_.ReadFault) by left held kept before now result tells =
      subst (Writes call told left left held kept) (sym tells.0)
      (subst (λ k. WritesBefore call left left held k) (sym tells.1) (silent left held))
  told_writes (Err halt_.Memory) by left held kept before now result tells =
      subst (Writes call told left left held kept) (sym tells.0)
      (subst (λ k. WritesFront call told left left held k) (sym tells.1) (nothing_written call told left held))

-- what was answered, or refused, says of the count of the folder's faults
pub answer_faults : (answered : Result Answer GatherRefusal) (before now : ℕ) → OnOk answered (now ≡ before)
    → IfErr answered (λ refusal. GatherFaults refusal before now) → AnswerFaults answered before now
answer_faults (Ok answer) before now fine failed = fine
answer_faults (Err refusal) before now fine failed = failed

-- what is answered to a question about files
module _ (question : Question) (names : List (List ℕ)) (told : Option FileMap) where
  pub look_writes : (answered : Result Answer Halt) → IfOk answered (λ answer. Answered question names told answer)
      → (left held kept : Option (List ℕ)) (before now : ℕ) (result : Status)
      → TellsAnswer held kept before now answered result
      → Writes (call_.OnFiles question names) told left left held kept result
  look_writes =
      told_writes (call_.OnFiles question names) refl told (λ answer. Answered question names told answer)
      (λ answer by. (by.folder, by.is_folder, λ input. by.answers)) (answer_is_said question names told)
      (λ left held. Appends-nil held)

  pub look_folder : (answered : Result Answer Halt) → IfOk answered (λ answer. Answered question names told answer)
      → (held kept : Option (List ℕ)) (before now : ℕ) (result : Status) (first last : ℕ)
      → OnOk answered (last ≡ first) → IfErr answered (λ halt. HaltFaults halt first last)
      → TellsAnswer held kept before now answered result
      → Counts (folder_failed (call_.OnFiles question names) result) first last
  look_folder answered by =
      told_folder (call_.OnFiles question names) refl answered
      (ok_says (λ answer. Answered question names told answer) (answer_is_said question names told) answered by)

-- what is answered where a certificate is to be migrated
module _ (certificate : List ℕ) (told : Option FileMap) where
  migrated_is_said : (answer : Answer) → Migrated certificate told answer → IsSaid answer.status
  migrated_is_said answer by = migration_said certificate by.folder answer.text answer.status by.answers

  pub migrated_says : (answered : Result Answer Halt) → IfOk answered (λ answer. Migrated certificate told answer)
      → IfOk answered (λ answer. IsSaid answer.status)
  migrated_says = ok_says (λ answer. Migrated certificate told answer) migrated_is_said

  pub migrated_writes : (answered : Result Answer Halt) → IfOk answered (λ answer. Migrated certificate told answer)
      → (left held kept : Option (List ℕ)) (before now : ℕ) (result : Status)
      → TellsAnswer held kept before now answered result
      → Writes (call_.Migrate certificate) told left left held kept result
  migrated_writes =
      told_writes (call_.Migrate certificate) refl told (λ answer. Migrated certificate told answer)
      (λ answer by. (by.folder, by.is_folder, λ input. by.answers)) migrated_is_said (λ left held. Appends-nil held)

-- what is answered to a report on generated traits
module _ (traits : Generation) (text : List ℕ) (answer : Answer) (is_text : text ≡ answer.text)
    (is : answer ≡ generation_answer traits) where
  generation_is_said : IsSaid answer.status
  generation_is_said =
      subst IsSaid (sym (ap (λ (a : Answer). a.status) is))
      (either_said (is_good (counts_of (report_of DEFAULT_REWRITING_LIMIT (generated_table traits)))))

  pub generation_writes : (told : Option FileMap) (left held kept : Option (List ℕ)) (before now : ℕ)
      (result : Status) → Says held kept before now text answer.status result
      → Writes (call_.Generate traits) told left left held kept result
  generation_writes told left held kept =
      said_writes (call_.Generate traits) refl told left held kept (known_files told) text answer.status
      (folder_is told) (is_text ∙ ap (λ (a : Answer). a.text) is, ap (λ (a : Answer). a.status) is)
      generation_is_said

  pub generation_sink : (held kept : Option (List ℕ)) (before now : ℕ) (result : Status)
      → Says held kept before now text answer.status result → Counts (sink_failed result) before now
  generation_sink held kept before now = said_sink answer.status generation_is_said held kept before now text

-- what comes of it
module _ (traits : Generation) (held : Option (List ℕ)) (before now : ℕ) (least : before ≤ now)
    (most : now ≤ before + generation_steps traits) where
  pub generates_nothing : Generates traits held held before now
  generates_nothing = record {
    front = [];
    written = Appends-nil held;
    shown = λ some. absurd (omega (arith, some));
    least = least;
    most = most;
  }

  by_front : (kept : Option (List ℕ)) (front : List ℕ) → Appends held kept front → IsGenerationJustified traits
      → Generates traits held kept before now
  by_front kept front put proved = record {
    front = front;
    written = put;
    shown = λ some. proved;
    least = least;
    most = most;
  }

  pub generates_told : IsGenerationJustified traits → (kept : Option (List ℕ)) (was is : ℕ) (text : List ℕ)
      (status result : Status) → Says held kept was is text status result → Generates traits held kept before now
  generates_told proved kept was is text status result said = elim said [
    | inl whole ↦ by_front kept text whole.1 proved
    | inr front ↦ elim front [
      | inl failed ↦ let put = failed.1 in by_front kept put.0 put.4 proved
      | inr lacking ↦ let put = lacking.1 in by_front kept put.0 put.4 proved
    ]
  ]

-- the usage line was to be written
pub usage_writes : (told : Option FileMap) (left held kept : Option (List ℕ)) (before now : ℕ) (result : Status)
    → Says held kept before now usage_text Words result
    → Writes call_.Nothing told left left held kept result
usage_writes told left held kept =
    said_writes call_.Nothing refl told left held kept (known_files told) usage_text Words (folder_is told)
    (refl, refl) tt

pub usage_sink : (held kept : Option (List ℕ)) (before now : ℕ) (result : Status)
    → Says held kept before now usage_text Words result → Counts (sink_failed result) before now
usage_sink held kept before now result said = said_sink Words tt held kept before now usage_text result said

-- where no count rose and memory didn't run out, the whole output was written
pub complete : (call : Call) (told : Option FileMap) (left leaves held holds : Option (List ℕ)) (result : Status)
    (a b c d e f : ℕ)
    → Writes call told left leaves held holds result → Counts (source_failed call result) a b
    → Counts (folder_failed call result) c d → Counts (sink_failed result) e f
    → (Rose a b → ⊥) → (Rose c d → ⊥) → (Rose e f → ⊥) → result ≢ Memory
    → Answers call told left leaves held holds result
complete call told left leaves held holds Good a b c d e f w source folder sink read look write memory = w
complete call told left leaves held holds Remains a b c d e f w source folder sink read look write memory = w
complete call told left leaves held holds Words a b c d e f w source folder sink read look write memory = w
complete (call_.Session limit) told left leaves held holds ReadFault a b c d e f w source folder sink read look write
    memory =
    absurd (read source)
complete (call_.OnFiles question names) told left leaves held holds ReadFault a b c d e f w source folder sink read look
    write memory = absurd (look folder)
complete (call_.Migrate certificate) told left leaves held holds ReadFault a b c d e f w source folder sink read look
    write memory = absurd (look folder)
complete (call_.Generate traits) told left leaves held holds ReadFault a b c d e f w source folder sink read look write
    memory = absurd w
complete call_.Nothing told left leaves held holds ReadFault a b c d e f w source folder sink read look write memory =
    absurd w
complete call told left leaves held holds WriteFault a b c d e f w source folder sink read look write memory =
    absurd (write sink)
complete call told left leaves held holds Memory a b c d e f w source folder sink read look write memory =
    absurd (memory refl)
complete call told left leaves held holds Malformed a b c d e f w source folder sink read look write memory = w
complete call told left leaves held holds Size a b c d e f w source folder sink read look write memory = w
complete call told left leaves held holds NoFile a b c d e f w source folder sink read look write memory = w

-- so it is of reports
pub nothing_made : (call : Call) (told : Option FileMap) (left held : Option (List ℕ)) (n : ℕ)
    → CallReports call told left held held n n
nothing_made (call_.Session limit) told left held n = nothing_reported limit left held n
nothing_made (call_.OnFiles Check names) told left held n = refl
nothing_made (call_.OnFiles Obligations names) told left held n = refl
nothing_made (call_.OnFiles (Replay limit) names) told left held n = nothing_replayed limit names told held n
nothing_made (call_.OnFiles (Derive asked limit) names) told left held n = nothing_worked limit names told n
nothing_made (call_.OnFiles (Verify asked) names) told left held n = refl
nothing_made (call_.OnFiles (Model tried) names) told left held n = refl
nothing_made (call_.OnFiles (Trim asked) names) told left held n = refl
nothing_made (call_.OnFiles (Complete stem limit) names) told left held n = refl
nothing_made (call_.Migrate certificate) told left held n = refl
nothing_made (call_.Generate traits) told left held n =
    generates_nothing traits held n n (omega arith) (omega arith)
nothing_made call_.Nothing told left held n = refl

pub reports_as : (these call : Call) (told : Option FileMap) (left held holds : Option (List ℕ)) (before now : ℕ)
    → these ≡ call
    → CallReports these told left held holds before now → CallReports call told left held holds before now
reports_as these call told left held holds before now is r =
    subst (λ (c : Call). CallReports c told left held holds before now) is r

-- where memory ran out before the words were read, whatever they ask for
pub memory_input : (call : Call) (left leaves held holds : Option (List ℕ))
    → CallTakes call left leaves held holds Memory
memory_input (call_.Session limit) left leaves held holds = tt
memory_input (call_.OnFiles question names) left leaves held holds = tt
memory_input (call_.Migrate certificate) left leaves held holds = tt
memory_input (call_.Generate traits) left leaves held holds = tt
memory_input call_.Nothing left leaves held holds = tt

-- what the words ask about files, by what they are read as
module _ (call : Call) (words : List (List ℕ)) (question : Question) (names : List (List ℕ))
    (read : call ≡ call_of words) (is : call ≡ call_.OnFiles question names) where
  pub asked_certificate : ((others these : List (List ℕ)) (asked : Verification)
      → call_of others ≡ call_.OnFiles (Verify asked) these → is_certificate asked.certificate ≡ true)
      → IsCertified question
  asked_certificate certified asked e =
      certified words names asked (sym read ∙ is ∙ ap (λ q. call_.OnFiles q names) e)

  pub asked_trimmed : ((others these : List (List ℕ)) (asked : Verification)
      → call_of others ≡ call_.OnFiles (Trim asked) these → is_certificate asked.certificate ≡ true)
      → TrimsCertificate question
  asked_trimmed certified asked e =
      certified words names asked (sym read ∙ is ∙ ap (λ q. call_.OnFiles q names) e)

  pub asked_model : ((others these : List (List ℕ)) (tried : Trial)
      → call_of others ≡ call_.OnFiles (Model tried) these → is_model tried.model ≡ true)
      → NamesModel question
  asked_model named tried e = named words names tried (sym read ∙ is ∙ ap (λ q. call_.OnFiles q names) e)

-- so it is of a certificate that is to be migrated
pub asked_migrated : (call : Call) (words : List (List ℕ)) (certificate : List ℕ) → call ≡ call_of words
    → call ≡ call_.Migrate certificate
    → ((others : List (List ℕ)) (name : List ℕ) → call_of others ≡ call_.Migrate name → is_certificate name ≡ true)
    → is_certificate certificate ≡ true
asked_migrated call words certificate read is certified = certified words certificate (sym read ∙ is)

-- what a call shows, by what was written
module _ (law : (asked : Verification) (names : List (List ℕ)) (folder : FileMap) (input output : List ℕ)
    → Output (call_.OnFiles (Verify asked) names) folder input output Good → IsShown folder asked names)
    (trim_law : (asked : Verification) (names : List (List ℕ)) (folder : FileMap) (input output : List ℕ)
    → Output (call_.OnFiles (Trim asked) names) folder input output Good → IsTrimmed folder asked names output) where
  pub shows : (call : Call) (told : Option FileMap) (left leaves held holds : Option (List ℕ)) (status : Status)
      → Writes call told left leaves held holds status → Shows call told held holds status
  shows (call_.Session limit) told left leaves held holds status w = tt
  shows (call_.Migrate certificate) told left leaves held holds status w = tt
  shows (call_.Generate traits) told left leaves held holds status w = tt
  shows call_.Nothing told left leaves held holds status w = tt
  shows (call_.OnFiles Check names) told left leaves held holds status w = tt
  shows (call_.OnFiles Obligations names) told left leaves held holds status w = tt
  shows (call_.OnFiles (Replay limit) names) told left leaves held holds status w = tt
  shows (call_.OnFiles (Model tried) names) told left leaves held holds status w = tt
  shows (call_.OnFiles (Complete stem limit) names) told left leaves held holds status w = tt
  shows (call_.OnFiles (Derive asked limit) names) told left leaves held holds Good w = (
    w.folder,
    w.is_folder,
    w.output,
    w.written,
    derived_accepted asked limit names w.folder w.output w.defined,
  )
  shows (call_.OnFiles (Derive asked limit) names) told left leaves held holds Remains w = tt
  shows (call_.OnFiles (Derive asked limit) names) told left leaves held holds Words w = tt
  shows (call_.OnFiles (Derive asked limit) names) told left leaves held holds ReadFault w = tt
  shows (call_.OnFiles (Derive asked limit) names) told left leaves held holds WriteFault w = tt
  shows (call_.OnFiles (Derive asked limit) names) told left leaves held holds Memory w = tt
  shows (call_.OnFiles (Derive asked limit) names) told left leaves held holds Malformed w = tt
  shows (call_.OnFiles (Derive asked limit) names) told left leaves held holds Size w = tt
  shows (call_.OnFiles (Derive asked limit) names) told left leaves held holds NoFile w = tt
  shows (call_.OnFiles (Verify asked) names) told left leaves held holds Good w =
      (w.folder, w.is_folder, law asked names w.folder w.input w.output w.defined)
  shows (call_.OnFiles (Verify asked) names) told left leaves held holds Remains w = tt
  shows (call_.OnFiles (Verify asked) names) told left leaves held holds Words w = tt
  shows (call_.OnFiles (Verify asked) names) told left leaves held holds ReadFault w = tt
  shows (call_.OnFiles (Verify asked) names) told left leaves held holds WriteFault w = tt
  shows (call_.OnFiles (Verify asked) names) told left leaves held holds Memory w = tt
  shows (call_.OnFiles (Verify asked) names) told left leaves held holds Malformed w = tt
  shows (call_.OnFiles (Verify asked) names) told left leaves held holds Size w = tt
  shows (call_.OnFiles (Verify asked) names) told left leaves held holds NoFile w = tt
  shows (call_.OnFiles (Trim asked) names) told left leaves held holds Good w =
      (w.folder, w.is_folder, (trim_law asked names w.folder w.input w.output w.defined).shown)
  shows (call_.OnFiles (Trim asked) names) told left leaves held holds Remains w = tt
  shows (call_.OnFiles (Trim asked) names) told left leaves held holds Words w = tt
  shows (call_.OnFiles (Trim asked) names) told left leaves held holds ReadFault w = tt
  shows (call_.OnFiles (Trim asked) names) told left leaves held holds WriteFault w = tt
  shows (call_.OnFiles (Trim asked) names) told left leaves held holds Memory w = tt
  shows (call_.OnFiles (Trim asked) names) told left leaves held holds Malformed w = tt
  shows (call_.OnFiles (Trim asked) names) told left leaves held holds Size w = tt
  shows (call_.OnFiles (Trim asked) names) told left leaves held holds NoFile w = tt

kept_by : {A : Type 0} (b : Bool) (x : A) → MatchBool b (Unit {0}) (x ≡ x)
kept_by true x = tt
kept_by false x = refl

pub folder_kept : {A : Type 0} (call : Call) (x : A) → KeepsFolder call x x
folder_kept call x = kept_by (reads_folder call) x

pub source_kept : {A : Type 0} (call : Call) (x : A) → KeepsSource call x x
source_kept call x = kept_by (reads_source call) x

-- what holds of one call holds of the same call
pub writes_as : (these call : Call) (told : Option FileMap) (left leaves held holds : Option (List ℕ)) (result : Status)
    → these ≡ call
    → Writes these told left leaves held holds result → Writes call told left leaves held holds result
writes_as these call told left leaves held holds result is w =
    subst (λ c. Writes c told left leaves held holds result) is w

pub completes_as : (these call : Call) (told : Option FileMap) (left leaves held holds : Option (List ℕ))
    (result : Status) (a b c d e f : ℕ) → these ≡ call
    → Writes these told left leaves held holds result → Counts (source_failed these result) a b
    → Counts (folder_failed these result) c d → Counts (sink_failed result) e f
    → (Rose a b → ⊥) → (Rose c d → ⊥) → (Rose e f → ⊥) → result ≢ Memory
    → Answers call told left leaves held holds result
completes_as these call told left leaves held holds result a b c d e f is w source folder sink read look write memory =
    subst (λ t. Answers t told left leaves held holds result) is
    (complete these told left leaves held holds result a b c d e f w source folder sink read look write memory)

-- a call that doesn't read the source has no fault of it
pub unread : (call : Call) → reads_source call ≡ false → (status : Status) (n : ℕ)
    → Counts (source_failed call status) n n
unread call reads Good n = refl
unread call reads Remains n = refl
unread call reads Words n = refl
unread call reads ReadFault n = subst (λ b. Counts b n n) (sym reads) refl
unread call reads WriteFault n = refl
unread call reads Memory n = refl
unread call reads Malformed n = refl
unread call reads Size n = refl
unread call reads NoFile n = refl

-- and one that doesn't look at the folder none of that
pub unlooked : (call : Call) → reads_folder call ≡ false → (status : Status) (n : ℕ)
    → Counts (folder_failed call status) n n
unlooked call reads Good n = refl
unlooked call reads Remains n = refl
unlooked call reads Words n = refl
unlooked call reads ReadFault n = subst (λ b. Counts b n n) (sym reads) refl
unlooked call reads WriteFault n = refl
unlooked call reads Memory n = refl
unlooked call reads Malformed n = refl
unlooked call reads Size n = refl
unlooked call reads NoFile n = refl
