-- What comes of a replay, and of a derivation.
use Rattle.std.proofs.Common.{◌≡◌, ◌≤◌, ◌+◌, ℕ, inl, inr, List, [], Option, Some, None, Result, Ok, Err, refl, sym}
use Rattle.std.proofs.Common.{subst, arith}
use Rattle.std.specs.Prelude.{IfOk, IfSome}
use Rattle.std.specs.Io.KnownBytes.{Appends}
use Rattle.std.proofs.KnownBytes.{Appends-nil}
use Rattle.larch_io.specs.Folder.{FileMap}
use Rattle.larch_main_status.specs.declared.halt.Halt.{Halt}
use Rattle.larch_main_status.specs.declared.halt.Halt.TheVariants as halt_
use Rattle.larch_main_status.specs.declared.status.Status.{Status}
use Rattle.larch_prove_meaning.specs.Redo.{redo}
use Rattle.larch_main_session.specs.SessionSourcesJustified.{IsJustifiedReport}
use Rattle.larch_main_files.specs.SessionMeaningRedone.{replayed_on}
use Rattle.larch_main_status.specs.TraitsFiles.{Table}
use Rattle.larch_words.specs.declared.call.Question.{Question}
use Rattle.larch_words.specs.declared.call.Question.TheVariants.{Check, Complete, Derive, Model, Obligations}
use Rattle.larch_words.specs.declared.call.Question.TheVariants.{Replay, Trim, Verify}
use Rattle.larch_main_files.specs.Answer.{TellsAnswer, answer_of, made_of}
use Rattle.larch_main_files.specs.Gather.{Gathered, Whole, Absent, TooLarge, IsFolder, gather_names}
use Rattle.larch_main_files.specs.Look.{ComesTo, found_of}
use Rattle.larch_main.specs.Derive.{Worked}
use Rattle.larch_main.specs.Questions.{QuestionReports, Works}
use Rattle.larch_main.specs.Replay.{AreDerivable, Replayed, Replays, steps_on}
use Rattle.larch_main_files.specs.declared.answer.Answer.{Answer}
use Rattle.larch_main_files.specs.declared.gather.GatherRefusal.{GatherRefusal}
use Rattle.larch_main_files.specs.declared.gather.GatherRefusal.TheVariants as refusal_

-- what a folder tells that it has, or nothing
abbrev pub known_files : Option FileMap → FileMap
known_files None = []
known_files (Some files) = files

pub folder_is : (told : Option FileMap) → IsFolder told (known_files told)
folder_is None = tt
folder_is (Some files) = refl

-- nothing was written, and no step taken
pub nothing_replayed : (limit : ℕ) (names : List (List ℕ)) (told : Option FileMap) (held : Option (List ℕ)) (n : ℕ)
    → Replayed limit names told held held n n
nothing_replayed limit names told held n = record {
  folder = known_files told;
  front = [];
  is_folder = folder_is told;
  written = Appends-nil held;
  shown = λ some. absurd (omega (arith, some));
  least = omega arith;
  most = omega arith;
}

pub nothing_worked : (limit : ℕ) (names : List (List ℕ)) (told : Option FileMap) (n : ℕ) → Worked limit names told n n
nothing_worked limit names told n = record {
  folder = known_files told;
  is_folder = folder_is told;
  least = omega arith;
  most = omega arith;
}

some_justified : (A : Type 0) (o : Option Answer) → A → IfSome o (λ _. A)
some_justified A None a = tt
some_justified A (Some answer) a = a

module _ (limit : ℕ) (names : List (List ℕ)) (told : Option FileMap) where
  -- a replay for which not all files were gathered makes no report
  refused_by : (n : ℕ) (found : Gathered Table) → ComesTo told names found → AreDerivable limit found
      → (answer : Option Answer) → Replays limit names told n n answer
  refused_by n found comes none answer = record {
    folder = comes.folder;
    is_folder = comes.is_folder;
    justified =
        some_justified (AreDerivable limit (gather_names comes.folder [] names)) answer
        (subst (AreDerivable limit) (sym comes.is_found) none);
    least = omega arith;
    most = omega arith;
  }

  -- nothing is answered, and no step was taken
  unanswered : (n : ℕ) → Replays limit names told n n None
  unanswered n = record {
    folder = known_files told;
    is_folder = folder_is told;
    justified = tt;
    least = omega arith;
    most = omega arith;
  }

  pub replay_refused : (n : ℕ) (refusal : GatherRefusal)
      → IfSome (found_of {A = Table} (Err refusal)) (λ found. ComesTo told names found)
      → Replays limit names told n n (answer_of (Err refusal))
  replay_refused n (refusal_.Absent name) comes = refused_by n (Absent name) comes tt _
  replay_refused n refusal_.TooLarge comes = refused_by n TooLarge comes tt _
  replay_refused n refusal_.ReadFault comes = unanswered n
  replay_refused n refusal_.Memory comes = unanswered n

  -- the report on the files that were gathered
  module _ (files : Table) (comes : ComesTo told names (Whole files)) (before now : ℕ) (least : before ≤ now)
      (most : now ≤ before + redo [] (replayed_on limit files)) where
    costs : now ≤ before + steps_on limit (gather_names comes.folder [] names)
    costs = subst (λ found. now ≤ before + steps_on limit found) (sym comes.is_found) most

    pub replay_made : (answer : Answer) → IsJustifiedReport limit files
        → Replays limit names told before now (Some answer)
    replay_made answer justified = record {
      folder = comes.folder;
      is_folder = comes.is_folder;
      justified = subst (AreDerivable limit) (sym comes.is_found) justified;
      least = least;
      most = costs;
    }

    pub replay_lacks : Replays limit names told before now None
    replay_lacks = record {
      folder = comes.folder;
      is_folder = comes.is_folder;
      justified = tt;
      least = least;
      most = costs;
    }

    -- a derivation takes as many
    pub derivation_worked : Worked limit names told before now
    derivation_worked = record {
      folder = comes.folder;
      is_folder = comes.is_folder;
      least = least;
      most = costs;
    }

  -- what was answered is written, or a front of it, or nothing
  by_front : (before now : ℕ) (answer : Answer) → Replays limit names told before now (Some answer)
      → (held kept : Option (List ℕ)) (front : List ℕ) → Appends held kept front
      → Replayed limit names told held kept before now
  by_front before now answer r held kept front put = record {
    folder = r.folder;
    front = front;
    is_folder = r.is_folder;
    written = put;
    shown = λ some. r.justified;
    least = r.least;
    most = r.most;
  }

  by_nothing : (before now : ℕ) (o : Option Answer) → Replays limit names told before now o
      → (held kept : Option (List ℕ)) → kept ≡ held → Replayed limit names told held kept before now
  by_nothing before now o r held kept same = record {
    folder = r.folder;
    front = [];
    is_folder = r.is_folder;
    written = subst (λ k. Appends held k []) (sym same) (Appends-nil held);
    shown = λ some. absurd (omega (arith, some));
    least = r.least;
    most = r.most;
  }

  pub replay_told : (before now : ℕ) (answered : Result Answer Halt)
      → Replays limit names told before now (made_of answered)
      → (held kept : Option (List ℕ)) (was is : ℕ) (result : Status) → TellsAnswer held kept was is answered result
      → Replayed limit names told held kept before now
  replay_told before now (Ok answer) r held kept was is result tells = elim tells [
    | inl whole ↦ by_front before now answer r held kept answer.text whole.1
    | inr front ↦ elim front [
      | inl failed ↦ let put = failed.1 in by_front before now answer r held kept put.0 put.4
      | inr lacking ↦ let put = lacking.1 in by_front before now answer r held kept put.0 put.4
    ]
  ]
  replay_told before now (Err halt_.ReadFault) r held kept was is result tells =
      by_nothing before now None r held kept tells.1
  replay_told before now (Err halt_.Memory) r held kept was is result tells =
      by_nothing before now None r held kept tells.1

  -- a refusal is answered, or it isn't
  justified_by : (A : Type 0) (o : Option Answer) (result : Result Answer Halt) → IfSome o (λ _. A)
      → IfOk result (λ answer. o ≡ Some answer) → IfSome (made_of result) (λ _. A)
  justified_by A None (Ok answer) a is = cc
  justified_by A (Some other) (Ok answer) a is = a
  justified_by A o (Err halt) a is = tt

  pub replays_answered : (before now : ℕ) (o : Option Answer) (result : Result Answer Halt)
      → Replays limit names told before now o → IfOk result (λ answer. o ≡ Some answer)
      → Replays limit names told before now (made_of result)
  replays_answered before now o result r is = record {
    folder = r.folder;
    is_folder = r.is_folder;
    justified =
        justified_by (AreDerivable limit (gather_names r.folder [] names)) o result r.justified is;
    least = r.least;
    most = r.most;
  }

-- the same of any question
pub question_told : (question : Question) (names : List (List ℕ)) (told : Option FileMap) (before now : ℕ)
    (answered : Result Answer Halt) → Works question names told before now (made_of answered)
    → (held kept : Option (List ℕ)) (was is : ℕ) (result : Status) → TellsAnswer held kept was is answered result
    → QuestionReports question names told held kept before now
question_told Check names told before now answered w held kept was is result tells = w
question_told Obligations names told before now answered w held kept was is result tells = w
question_told (Replay limit) names told before now answered w held kept was is result tells =
    replay_told limit names told before now answered w held kept was is result tells
question_told (Derive asked limit) names told before now answered w held kept was is result tells = w
question_told (Verify asked) names told before now answered w held kept was is result tells = w
question_told (Model tried) names told before now answered w held kept was is result tells = w
question_told (Trim asked) names told before now answered w held kept was is result tells = w
question_told (Complete stem limit) names told before now answered w held kept was is result tells = w

pub works_answered : (question : Question) (names : List (List ℕ)) (told : Option FileMap) (before now : ℕ)
    (o : Option Answer) (result : Result Answer Halt) → Works question names told before now o
    → IfOk result (λ answer. o ≡ Some answer) → Works question names told before now (made_of result)
works_answered Check names told before now o result w is = w
works_answered Obligations names told before now o result w is = w
works_answered (Replay limit) names told before now o result w is =
    replays_answered limit names told before now o result w is
works_answered (Derive asked limit) names told before now o result w is = w
works_answered (Verify asked) names told before now o result w is = w
works_answered (Model tried) names told before now o result w is = w
works_answered (Trim asked) names told before now o result w is = w
works_answered (Complete stem limit) names told before now o result w is = w
