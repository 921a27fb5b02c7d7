-- What is answered to questions about files.
use Rattle.std.proofs.Common.{◌≡◌, sym, ap, ◌∙◌, ℕ, List, [], Result, Ok, Err, IfOk, refl, subst}
use Rattle.larch_io.specs.Folder.{FileMap}
use Rattle.std.specs.Prelude.{IfErr, IfSome, OnOk, Option, Some, None}
use Rattle.larch_traits.specs.Files.{Table}
use Rattle.larch_words.specs.declared.call.Question.{Question}
use Rattle.larch_main_files.specs.Answer.{AnswersBy, IsAnswer, answer_to, no_file, size_passed}
use Rattle.larch_main_files.specs.Gather.{Gathered, Absent, TooLarge, evidence_in, gather_names}
use Rattle.larch_main_files.specs.Look.{ComesTo, EvidenceFor, found_of}
use Rattle.larch_main_files.specs.Questions.{Answered, MayAnswer}
use Rattle.larch_main_files.specs.declared.answer.Answer.{Answer}
use Rattle.larch_main_files.specs.declared.gather.Evidence.{Evidence}
use Rattle.larch_main_files.specs.declared.gather.GatherRefusal.{GatherRefusal}
use Rattle.larch_main_files.specs.declared.gather.GatherRefusal.TheVariants as refusal_
use Rattle.larch_main_status.specs.declared.halt.Halt.{Halt}
use Rattle.larch_main_status.specs.declared.status.Status.{Status}

-- an answer that is this one may be answered where this one may
pub is_answer : (answer other : Answer) → answer ≡ other → IsAnswer other answer.text answer.status
is_answer answer other same = (ap (λ a. a.text) same, ap (λ a. a.status) same)

-- what may be answered to what was gathered of files may be answered to a question that is about it
module _ (question : Question) (names : List (List ℕ)) (told : Option FileMap) (Told : Table → List ℕ → Status → Type 0)
    (about : (folder : FileMap) (text : List ℕ) (status : Status)
    → AnswersBy Told (gather_names folder [] names) text status → MayAnswer question names folder text status) where
  pub files_answered : (found : Gathered Table) (answer : Answer) → ComesTo told names found
      → AnswersBy Told found answer.text answer.status → Answered question names told answer
  files_answered found answer comes by = record {
    folder = comes.folder;
    is_folder = comes.is_folder;
    answers =
        about comes.folder answer.text answer.status
        (subst (λ f. AnswersBy Told f answer.text answer.status) (sym comes.is_found) by);
  }

  pub files_refused : (refusal : GatherRefusal)
      → IfSome (found_of {A = Table} (Err refusal)) (λ found. ComesTo told names found)
      → IfSome (answer_to refusal) (λ answer. Answered question names told answer)
  files_refused (refusal_.Absent name) comes = files_answered (Absent name) (no_file name) comes (refl, refl)
  files_refused refusal_.TooLarge comes = files_answered TooLarge size_passed comes (refl, refl)
  files_refused refusal_.ReadFault comes = tt
  files_refused refusal_.Memory comes = tt

-- the same of what was gathered of a certificate or a model, and files
module _ (question : Question) (names : List (List ℕ)) (told : Option FileMap) (evidence : List ℕ)
    (Told : Evidence → List ℕ → Status → Type 0)
    (about : (folder : FileMap) (text : List ℕ) (status : Status)
    → AnswersBy Told (evidence_in folder evidence names) text status
    → MayAnswer question names folder text status) where
  pub evidence_answered : (found : Gathered Evidence) (answer : Answer) → EvidenceFor told evidence names found
      → AnswersBy Told found answer.text answer.status → Answered question names told answer
  evidence_answered found answer comes by = record {
    folder = comes.folder;
    is_folder = comes.is_folder;
    answers =
        about comes.folder answer.text answer.status
        (subst (λ f. AnswersBy Told f answer.text answer.status) (sym comes.is_found) by);
  }

  pub evidence_refused : (refusal : GatherRefusal)
      → IfSome (found_of {A = Evidence} (Err refusal)) (λ found. EvidenceFor told evidence names found)
      → IfSome (answer_to refusal) (λ answer. Answered question names told answer)
  evidence_refused (refusal_.Absent name) comes = evidence_answered (Absent name) (no_file name) comes (refl, refl)
  evidence_refused refusal_.TooLarge comes = evidence_answered TooLarge size_passed comes (refl, refl)
  evidence_refused refusal_.ReadFault comes = tt
  evidence_refused refusal_.Memory comes = tt

-- the answer to a refusal, and what it says of faults
pub refusal_answered : (P : Answer → Type 0) (o : Option Answer) (result : Result Answer Halt) → IfSome o P
    → IfOk result (λ answer. o ≡ Some answer) → IfOk result P
refusal_answered P None (Ok answer) p is = cc
refusal_answered P (Some other) (Ok answer) p is = let same : other ≡ answer = cc in subst P same p
refusal_answered P o (Err halt) p is = tt

pub ok_by : {A B : Type 0} (result : Result Answer Halt) → (A → B) → OnOk result A → OnOk result B
ok_by (Ok answer) f a = f a
ok_by (Err halt) f a = tt

pub err_by : (P Q : Halt → Type 0) (result : Result Answer Halt) → ((halt : Halt) → P halt → Q halt)
    → IfErr result P → IfErr result Q
err_by P Q (Ok answer) f p = tt
err_by P Q (Err halt) f p = f halt p

-- a call that answers one thing answers what is the same
pub same_ok : {A E : Type 0} (one other : A) (result : Result A E) → one ≡ other → IfOk result (λ found. found ≡ one)
    → IfOk result (λ found. found ≡ other)
same_ok one other (Ok found) e is = is ∙ e
same_ok one other (Err error) e is = tt

-- what holds holds where a call answers
pub ok_always : {A B E : Type 0} (result : Result B E) → A → OnOk result A
ok_always (Ok found) a = a
ok_always (Err error) a = tt
