-- Each question has an answer, and the status beside it is one that is said.
use Rattle.std.proofs.Common.{◌≡◌, ℕ, inl, inr, Bool, true, false, List, [], Option, Some, None, Result, Ok, Err}
use Rattle.std.proofs.Common.{refl, sym, subst}
use Rattle.std.specs.Prelude.{IfOk}
use Rattle.larch_io.specs.Folder.{FileMap}
use Rattle.larch_certificate.specs.declared.line.Line.{Line}
use Rattle.larch_certificate_text.specs.CertificateText.{read_certificate}
use Rattle.larch_certificate_migrate.specs.Migrated.{second_text}
use Rattle.larch_complete_answer.specs.Told.{completion_told}
use Rattle.larch_term.specs.declared.statement.Theory.{Theory}
use Rattle.larch_verify_meaning.specs.Acceptance.{verdict}
use Rattle.larch_duties_meaning.specs.Duties.{Duty}
use Rattle.larch_words.specs.declared.call.Question.{Question}
use Rattle.larch_words.specs.declared.call.Question.TheVariants.{Check, Complete, Derive, Model, Obligations}
use Rattle.larch_words.specs.declared.call.Question.TheVariants.{Replay, Trim, Verify}
use Rattle.larch_main_files.specs.Answer.{AnswersBy, IsAnswer, TellsAnswer, good_or_remains}
use Rattle.larch_main_files.specs.declared.answer.Answer.{Answer}
use Rattle.larch_main_status.specs.declared.halt.Halt.{Halt}
use Rattle.larch_main_status.specs.declared.halt.Halt.TheVariants as halt_
use Rattle.larch_main_status.specs.declared.status.Status.{Status}
use Rattle.larch_main_status.specs.declared.status.Status.TheVariants.{Good, Remains, Words, ReadFault, WriteFault}
use Rattle.larch_main_status.specs.declared.status.Status.TheVariants.{Memory, Malformed, Size, NoFile}
use Rattle.larch_main_files.specs.Check.{check_answer}
use Rattle.larch_main_files.specs.Completion.{completed_over, completion_answer}
use Rattle.larch_main_files.specs.Derive.{MayDerive, derivation_answer}
use Rattle.larch_main_files.specs.Gather.{Gathered, Whole, Absent, TooLarge, evidence_in, gather_names}
use Rattle.larch_main_files.specs.Migrate.{MayMigrate, migrated_told, migration_answer}
use Rattle.larch_main_files.specs.Obligations.{obligations_answer}
use Rattle.larch_main_files.specs.Questions.{Answered, MayAnswer}
use Rattle.larch_main_status.specs.Faults.{Counts, sink_failed}
use Rattle.larch_session_meaning.specs.Files.{report_of}
use Rattle.larch_session_meaning.specs.DutiesOwn.{trait_own_claims}
use Rattle.larch_session_meaning.specs.DutiesOwnOwnClaims.{OwnClaims}
use Rattle.larch_flat_meaning.specs.Stops.{Stop}
use Rattle.larch_models_answer.specs.Judgements.{judge_model}
use Rattle.larch_models_answer.specs.declared.finding.Ending.{Ending}
use Rattle.larch_models_answer.specs.declared.finding.Ending.TheVariants as ending_
use Rattle.larch_traits.specs.Reading.{read_files}
use Rattle.larch_main_files.specs.Model.{ending_status, trial_answer, tried_over}
use Rattle.larch_main_files.specs.Replay.{replay_answer}
use Rattle.larch_main_files.specs.Report.{check_of}
use Rattle.larch_report.specs.Counts.{counts_of, is_good}
use Rattle.larch_main_status.specs.Say.{Says}
use Rattle.larch_main_files.specs.Theory.{trait_theory}
use Rattle.larch_main_files.specs.Trim.{trimming_answer}
use Rattle.larch_main_files.specs.Verify.{duty_in, judged_by, verdict_told, verification_answer}
use Rattle.larch_main_files.proofs.Left.{left_keeps}
use Rattle.larch_main_status.proofs.Statuses.{quiet}

-- a status that stands beside a text
abbrev pub IsSaid : Status → Type 0
IsSaid ReadFault = ⊥
IsSaid WriteFault = ⊥
IsSaid Memory = ⊥
IsSaid _ = Unit {0}

pub either_said : (b : Bool) → IsSaid (good_or_remains b)
either_said true = tt
either_said false = tt

by_said : {A : Type 0} (Told : A → List ℕ → Status → Type 0)
    → ((found : A) (text : List ℕ) (status : Status) → Told found text status → IsSaid status)
    → (found : Gathered A) (text : List ℕ) (status : Status) → AnswersBy Told found text status → IsSaid status
by_said Told each (Whole found) text status is = each found text status is
by_said Told each (Absent name) text status is = subst IsSaid (sym is.1) tt
by_said Told each TooLarge text status is = subst IsSaid (sym is.1) tt

verdict_said : (o : Option ℕ) → IsSaid (verdict_told o).status
verdict_said None = tt
verdict_said (Some number) = tt

judged_said : (duty : Option Duty) (read : Result (Bool × List Line) ℕ) → IsSaid (judged_by duty read).status
judged_said None (Ok read) = tt
judged_said (Some duty) (Ok read) = verdict_said (verdict duty.theory duty.statement read.1)
judged_said duty (Err number) = tt

ending_said : (ending : Ending) → IsSaid (ending_status ending)
ending_said ending_.Holds = tt
ending_said ending_.Fails = tt
ending_said ending_.Malformed = tt
ending_said ending_.TooLarge = tt

tried_said : (text : List ℕ) (claims : Result OwnClaims Stop) → IsSaid (tried_over text claims).status
tried_said text (Ok own) = ending_said (judge_model own.theory own.assumed own.implied text).ending
tried_said text (Err stop) = tt

derivation_said : (derived : Option (List Line)) → IsSaid (derivation_answer derived).status
derivation_said None = tt
derivation_said (Some lines) = tt

completed_said : (limit : ℕ) (r : Result Theory Stop) → IsSaid (completed_over limit r).status
completed_said limit (Ok theory) = either_said (completion_told theory limit).complete
completed_said limit (Err stop) = tt

migrated_said : (r : Result (List ℕ) ℕ) → IsSaid (migrated_told r).status
migrated_said (Ok written) = tt
migrated_said (Err number) = tt

-- what may be answered to a question about files stands beside such a status
pub may_said : (question : Question) (names : List (List ℕ)) (folder : FileMap) (text : List ℕ) (status : Status)
    → MayAnswer question names folder text status → IsSaid status
may_said Check names folder text status is =
    by_said (λ files. IsAnswer (check_answer files))
    (λ files text status is. subst IsSaid (sym is.1) (either_said (is_good (counts_of (check_of files)))))
    (gather_names folder [] names) text status is
may_said Obligations names folder text status is =
    by_said (λ files. IsAnswer (obligations_answer files))
    (λ files text status is. subst IsSaid (sym is.1) (either_said (is_good (counts_of (check_of files)))))
    (gather_names folder [] names) text status is
may_said (Replay limit) names folder text status is =
    by_said (λ files. IsAnswer (replay_answer limit files))
    (λ files text status is. subst IsSaid (sym is.1) (either_said (is_good (counts_of (report_of limit files)))))
    (gather_names folder [] names) text status is
may_said (Derive asked limit) names folder text status is =
    by_said (MayDerive limit asked)
    (λ files text status may. subst IsSaid (sym may.answers.1) (derivation_said may.derivation))
    (gather_names folder [] names) text status is
may_said (Verify asked) names folder text status is =
    by_said (λ e. IsAnswer (verification_answer asked.stem asked.label e))
    (λ e text status is. subst IsSaid (sym is.1)
    (judged_said (duty_in e.files asked.stem asked.label) (read_certificate true e.text)))
    (evidence_in folder asked.certificate names) text status is
may_said (Model tried) names folder text status is =
    by_said (λ e. IsAnswer (trial_answer tried.stem e))
    (λ e text status is. subst IsSaid (sym is.1)
    (tried_said e.text (trait_own_claims (read_files e.files) tried.stem)))
    (evidence_in folder tried.model names) text status is
may_said (Trim asked) names folder text status is =
    by_said (λ e. IsAnswer (trimming_answer asked.stem asked.label e))
    (λ e text status is. subst IsSaid (sym is.1)
    (left_keeps IsSaid tt (verification_answer asked.stem asked.label e) (read_certificate true e.text)
    (judged_said (duty_in e.files asked.stem asked.label) (read_certificate true e.text))))
    (evidence_in folder asked.certificate names) text status is
may_said (Complete stem limit) names folder text status is =
    by_said (λ files. IsAnswer (completion_answer stem limit files))
    (λ files text status is. subst IsSaid (sym is.1) (completed_said limit (trait_theory (read_files files) stem)))
    (gather_names folder [] names) text status is

-- so does what may be answered where a certificate is to be migrated
pub migration_said : (certificate : List ℕ) (folder : FileMap) (text : List ℕ) (status : Status)
    → MayMigrate certificate folder text status → IsSaid status
migration_said certificate folder text status is =
    by_said (λ e. IsAnswer (migration_answer e.text))
    (λ e text status is. subst IsSaid (sym is.1) (migrated_said (second_text e.text)))
    (evidence_in folder certificate []) text status is

-- what a status that is said says of counts
module _ (status : Status) (says : IsSaid status) where
  no_sink_fault : (s : Status) → IsSaid s → sink_failed s ≡ false
  no_sink_fault Good is = refl
  no_sink_fault Remains is = refl
  no_sink_fault Words is = refl
  no_sink_fault Malformed is = refl
  no_sink_fault Size is = refl
  no_sink_fault NoFile is = refl
  no_sink_fault ReadFault is = absurd is
  no_sink_fault WriteFault is = absurd is
  no_sink_fault Memory is = absurd is

  pub said_sink : (held kept : Option (List ℕ)) (before now : ℕ) (text : List ℕ) (result : Status)
      → Says held kept before now text status result → Counts (sink_failed result) before now
  said_sink held kept before now text result said = elim said [
    | inl whole ↦
        subst (λ r. Counts (sink_failed r) before now) (sym whole.0)
        (quiet (sink_failed status) before now (no_sink_fault status says) whole.2)
    | inr front ↦ elim front [
      | inl failed ↦ subst (λ r. Counts (sink_failed r) before now) (sym failed.0) failed.2
      | inr lacking ↦ subst (λ r. Counts (sink_failed r) before now) (sym lacking.0) lacking.2
    ]
  ]

-- what is answered stands beside such a status
pub ok_says : (P : Answer → Type 0) → ((answer : Answer) → P answer → IsSaid answer.status)
    → (answered : Result Answer Halt) → IfOk answered P → IfOk answered (λ answer. IsSaid answer.status)
ok_says P says (Ok answer) by = says answer by
ok_says P says (Err halt) by = tt

-- what is answered says whether the sink failed
pub told_sink : (answered : Result Answer Halt) → IfOk answered (λ answer. IsSaid answer.status)
    → (held kept : Option (List ℕ)) (before now : ℕ) (result : Status)
    → TellsAnswer held kept before now answered result → Counts (sink_failed result) before now
told_sink (Ok answer) says held kept before now result tells =
    said_sink answer.status says held kept before now answer.text result tells
told_sink (Err halt_.ReadFault) says held kept before now result tells =
    subst (λ r. Counts (sink_failed r) before now) (sym tells.0) tells.2
told_sink (Err halt_.Memory) says held kept before now result tells =
    subst (λ r. Counts (sink_failed r) before now) (sym tells.0) tells.2

module _ (question : Question) (names : List (List ℕ)) (told : Option FileMap) where
  pub answer_is_said : (answer : Answer) → Answered question names told answer → IsSaid answer.status
  answer_is_said answer by = may_said question names by.folder answer.text answer.status by.answers

  -- so does what is answered to a question about files
  pub look_sink : (answered : Result Answer Halt) → IfOk answered (λ answer. Answered question names told answer)
      → (held kept : Option (List ℕ)) (before now : ℕ) (result : Status)
      → TellsAnswer held kept before now answered result → Counts (sink_failed result) before now
  look_sink (Ok answer) by = told_sink (Ok answer) (answer_is_said answer by)
  look_sink (Err halt) by = told_sink (Err halt) tt
