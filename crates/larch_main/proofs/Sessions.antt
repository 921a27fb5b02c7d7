-- What a session does, as a call.
use Rattle.std.proofs.Common.{◌≡◌, ℕ, List, Option, refl, subst}
use Rattle.larch_io.specs.Folder.{FileMap}
use Rattle.larch_words.specs.declared.call.Call.{Call}
use Rattle.larch_words.specs.declared.call.Call.TheVariants as call_
use Rattle.larch_main_status.specs.declared.status.Status.{Status}
use Rattle.larch_main_status.specs.declared.status.Status.TheVariants.{Good, Remains, Words, ReadFault, WriteFault}
use Rattle.larch_main_status.specs.declared.status.Status.TheVariants.{Memory, Malformed, Size, NoFile}
use Rattle.larch_main.specs.Running.{Answers, WritesFront, Writes, source_failed}
use Rattle.larch_main_status.specs.Faults.{Counts, read_failed}
use Rattle.larch_main_session.specs.Endings.{SessionAnswers, SessionFront, SessionWrites}
use Rattle.larch_main.proofs.Replaying.{folder_is, known_files}

-- what a session writes, as a call
session_answers : (limit : ℕ) (told : Option FileMap) (left leaves held holds : Option (List ℕ)) (status : Status)
    → SessionAnswers limit left leaves held holds status
    → Answers (call_.Session limit) told left leaves held holds status
session_answers limit told left leaves held holds status a = record {
  folder = known_files told;
  input = a.input;
  output = a.output;
  is_folder = folder_is told;
  is_input = a.is_input;
  defined = (a.last, a.session);
  written = a.written;
}

pub session_front : (limit : ℕ) (told : Option FileMap) (left leaves held holds : Option (List ℕ))
    → SessionFront limit left leaves held holds → WritesFront (call_.Session limit) told left leaves held holds
session_front limit told left leaves held holds w = record {
  folder = known_files told;
  input = w.input;
  front = w.front;
  is_folder = folder_is told;
  is_input = w.is_input;
  begins = w.begins;
  written = w.written;
}

pub session_writes : (limit : ℕ) (told : Option FileMap) (left leaves held holds : Option (List ℕ)) (status : Status)
    → SessionWrites limit left leaves held holds status
    → Writes (call_.Session limit) told left leaves held holds status
session_writes limit told left leaves held holds Good w = session_answers limit told left leaves held holds Good w
session_writes limit told left leaves held holds Remains w = session_answers limit told left leaves held holds Remains w
session_writes limit told left leaves held holds Words w = absurd w
session_writes limit told left leaves held holds ReadFault w = w
session_writes limit told left leaves held holds WriteFault w = session_front limit told left leaves held holds w
session_writes limit told left leaves held holds Memory w = session_front limit told left leaves held holds w
session_writes limit told left leaves held holds Malformed w =
    session_answers limit told left leaves held holds Malformed w
session_writes limit told left leaves held holds Size w = session_answers limit told left leaves held holds Size w
session_writes limit told left leaves held holds NoFile w = absurd w

-- a session reads its source, and no other thing
read_source : (limit : ℕ) (status : Status) → read_failed status ≡ source_failed (call_.Session limit) status
read_source limit Good = refl
read_source limit Remains = refl
read_source limit Words = refl
read_source limit ReadFault = refl
read_source limit WriteFault = refl
read_source limit Memory = refl
read_source limit Malformed = refl
read_source limit Size = refl
read_source limit NoFile = refl

pub session_source : (limit : ℕ) (status : Status) (before now : ℕ) → Counts (read_failed status) before now
    → Counts (source_failed (call_.Session limit) status) before now
session_source limit status before now counts = subst (λ b. Counts b before now) (read_source limit status) counts

-- what holds of one call holds of the same call
pub source_as : (these call : Call) (status : Status) (before now : ℕ) → these ≡ call
    → Counts (source_failed these status) before now → Counts (source_failed call status) before now
source_as these call status before now is counts =
    subst (λ (c : Call). Counts (source_failed c status) before now) is counts
