-- What may be answered to a question about files.
use Rattle.std.specs.Prelude.{◌≡◌, ℕ, true, List, [], Option}
use Rattle.larch_io.specs.Folder.{FileMap}
use Rattle.larch_words.specs.Call.{is_certificate, is_model}
use Rattle.larch_words.specs.declared.call.Question.{Question}
use Rattle.larch_words.specs.declared.call.Question.TheVariants.{Check, Complete, Derive, Model, Obligations}
use Rattle.larch_words.specs.declared.call.Question.TheVariants.{Replay, Trim, Verify}
use Rattle.larch_words.specs.declared.call.Trial.{Trial}
use Rattle.larch_words.specs.declared.call.Verification.{Verification}
use Rattle.larch_main_files.specs.Answer.{AnswersBy, IsAnswer}
use Rattle.larch_main_files.specs.Check.{check_answer}
use Rattle.larch_main_files.specs.Completion.{completion_answer}
use Rattle.larch_main_files.specs.Derive.{MayDerive}
use Rattle.larch_main_files.specs.Gather.{IsFolder, evidence_in, gather_names}
use Rattle.larch_main_files.specs.Model.{trial_answer}
use Rattle.larch_main_files.specs.Obligations.{obligations_answer}
use Rattle.larch_main_files.specs.Replay.{replay_answer}
use Rattle.larch_main_files.specs.Trim.{trimming_answer}
use Rattle.larch_main_files.specs.Verify.{verification_answer}
use Rattle.larch_main_files.specs.declared.answer.Answer.{Answer}
use Rattle.larch_main_status.specs.declared.status.Status.{Status}

-- to this question about the files of these names in a folder, this text and this status may be answered
abbrev pub MayAnswer : Question → List (List ℕ) → FileMap → List ℕ → Status → Type 0
MayAnswer Check names folder = AnswersBy (λ files. IsAnswer (check_answer files)) (gather_names folder [] names)
MayAnswer Obligations names folder =
    AnswersBy (λ files. IsAnswer (obligations_answer files)) (gather_names folder [] names)
MayAnswer (Replay limit) names folder =
    AnswersBy (λ files. IsAnswer (replay_answer limit files)) (gather_names folder [] names)
MayAnswer (Derive asked limit) names folder = AnswersBy (MayDerive limit asked) (gather_names folder [] names)
MayAnswer (Verify asked) names folder =
    AnswersBy (λ evidence. IsAnswer (verification_answer asked.stem asked.label evidence))
    (evidence_in folder asked.certificate names)
MayAnswer (Model tried) names folder =
    AnswersBy (λ evidence. IsAnswer (trial_answer tried.stem evidence)) (evidence_in folder tried.model names)
MayAnswer (Trim asked) names folder =
    AnswersBy (λ evidence. IsAnswer (trimming_answer asked.stem asked.label evidence))
    (evidence_in folder asked.certificate names)
MayAnswer (Complete stem limit) names folder =
    AnswersBy (λ files. IsAnswer (completion_answer stem limit files)) (gather_names folder [] names)

-- the certificate that a question names has the name of one
abbrev pub IsCertified : Question → Type 0
IsCertified question =
    (asked : Verification) → question ≡ Verify asked → is_certificate asked.certificate ≡ true

-- also where it is to be trimmed
abbrev pub TrimsCertificate : Question → Type 0
TrimsCertificate question =
    (asked : Verification) → question ≡ Trim asked → is_certificate asked.certificate ≡ true

-- and so has the model
abbrev pub NamesModel : Question → Type 0
NamesModel question = (tried : Trial) → question ≡ Model tried → is_model tried.model ≡ true

-- this was answered to a question: on some folder, the told one where it is told
pub record Answered (question : Question) (names : List (List ℕ)) (told : Option FileMap) (answer : Answer) : Type 0
  where
    pub folder : FileMap
    pub is_folder : IsFolder told folder
    pub answers : MayAnswer question names folder answer.text answer.status
