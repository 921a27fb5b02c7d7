-- What one step of the code is, in the words of the definition's step.
use Rattle.std.specs.Prelude.{◌≡◌, ◌<◌, ◌≤◌, ◌+◌, ◌⊎◌, ℕ, Bool, true, false, List, [], ◌++◌, Option, Result, Ok, Err}
use Rattle.larch_io.specs.Reader.{Taken, ReadsBytes}
use Rattle.larch_io.specs.declared.refusal.TakeRefusal.{TakeRefusal}
use Rattle.larch_io.specs.declared.refusal.TakeRefusal.TheVariants as take_
use Rattle.larch_session.specs.declared.session.Session.{Session as Holder}
use Rattle.larch_main_status.specs.TraitsFiles.{put_file}
use Rattle.larch_main_session.specs.declared.command.Command.{Command}
use Rattle.larch_main_status.specs.declared.status.Status.{Status}
use Rattle.larch_main_status.specs.declared.status.Status.TheVariants.{Size}
use Rattle.larch_main_session.specs.declared.progress.Progress.{Progress}
use Rattle.larch_main_session.specs.declared.progress.Move.{Move}
use Rattle.larch_main_session.specs.declared.progress.Move.TheVariants.{Goes, Stops}
use Rattle.larch_main_status.specs.declared.halt.Halt.{Halt}
use Rattle.larch_main_status.specs.declared.halt.Halt.TheVariants.{ReadFault, Memory}
use Rattle.larch_main_session.specs.Lines.{bytes_at}
use Rattle.larch_main_session.specs.Replies.{Reply, IsShown, Spells, steps_of}
use Rattle.larch_main_session.specs.Session.{State, Step, goes, stops, waits, step}
use Rattle.larch_main_session.specs.Session.{on_command, on_bytes, on_file, room_left, large_text}
use Rattle.larch_main_status.specs.Limits.{put_is_refused}
use Rattle.larch_session.specs.SessionKeptKept.{limit_in}

-- the state that a running session stands for
abbrev pub state_of : Progress → State
state_of progress =
    record {
      limit = limit_in progress.session.base;
      files = progress.session.files;
      taken = progress.reader.count;
      good = progress.good;
    }

-- the definition's step on bytes, of which others may follow or not
abbrev pub Machine : Type 0
Machine = Bool → List ℕ → Step

-- the step at a line
abbrev pub at_line : State → Machine
at_line state ended input = step ended state input

-- the step at a command whose line stands behind `before` bytes
abbrev pub at_command : ℕ → State → Option Command → Machine
at_command before state command ended input = on_command ended before state input command

-- the step at the bytes of a `put`
abbrev pub at_bytes : ℕ → State → List ℕ → ℕ → Machine
at_bytes before state name count ended input =
    on_bytes before state name input (bytes_at ended (room_left state) count input)

-- the step at a file whose bytes were taken
abbrev pub at_file : State → List ℕ → List ℕ → Machine
at_file state name file ended input = on_file state name file input

-- these bytes may come behind all that a reader has got: none where its source has ended, and then the input ends
abbrev pub MayFollow : Bool → Bool → List ℕ → Type 0
MayFollow over ended rest = over ≡ true → (ended ≡ true) × (rest ≡ [])

-- on what was kept and given, whatever follows, the machine makes this step
pub record Makes (machine : Machine) (old new : Taken) (before after : Option (List ℕ)) (made : List ℕ → Step)
    : Type 0 where
  pub given : List ℕ
  pub reads : ReadsBytes old new before after given
  pub step_is : (ended : Bool) (rest : List ℕ) → MayFollow new.ended ended rest
      → machine ended (old.kept ++ (given ++ rest)) ≡ made (new.kept ++ rest)

-- on what was kept and given the machine waits for more
pub record Wants (machine : Machine) (old new : Taken) (before after : Option (List ℕ)) : Type 0 where
  pub given : List ℕ
  pub reads : ReadsBytes old new before after given
  pub open_still : new.ended ≡ false
  pub step_is : machine false (old.kept ++ given) ≡ waits

module _ (machine : Machine) (old new : Progress) (before after : Option (List ℕ)) (was is : ℕ) where
  -- the machine goes on with a reply, as bytes that may be written and show what they are to show, and so many steps
  -- were taken
  pub record Replies (written : List ℕ) : Type 0 where
    pub reply : Reply
    pub shown : IsShown reply written
    pub least : was ≤ is
    pub most : is ≤ was + steps_of reply
    pub makes : Makes machine old.reader new.reader before after (λ rest. goes (state_of new) reply rest)

  -- the machine stops with this text and this status; no step was taken
  pub record Stopped (text : List ℕ) (status : Status) : Type 0 where
    pub none : is ≡ was
    pub makes : Makes machine old.reader new.reader before after (λ rest. stops (state_of new) text status)

  -- the machine goes on with a reply, for which so many steps were taken, and which was lost
  pub record Lacks : Type 0 where
    pub next : State
    pub reply : Reply
    pub least : was ≤ is
    pub most : is ≤ was + steps_of reply
    pub makes : Makes machine old.reader new.reader before after (λ rest. goes next reply rest)

-- What a step of the code did: it goes on or stops as the machine does, with bytes that may be written as its reply, or
-- its text; it waits as the machine does where the source failed; of a step that ran out of memory only steps are told,
-- of which there are none unless it was to make a reply.
abbrev pub Moves : Machine → Progress → Progress → Option (List ℕ) → Option (List ℕ) → ℕ → ℕ → Result Move Halt
    → Type 0
Moves machine old new before after was is (Ok (Goes written)) = Replies machine old new before after was is written
Moves machine old new before after was is (Ok (Stops written status)) =
    Stopped machine old new before after was is written status
Moves machine old new before after was is (Err ReadFault) =
    Wants machine old.reader new.reader before after × (is ≡ was)
Moves machine old new before after was is (Err Memory) = (is ≡ was) ⊎ Lacks machine old new before after was is

-- a step that goes on has taken something
abbrev pub Advances : Progress → Progress → Move → Type 0
Advances old new (Goes written) = old.reader.count < new.reader.count
Advances old new (Stops written status) = Unit {0}

-- a step that goes on behind a line has given nothing back
abbrev pub Follows : Progress → Progress → Move → Type 0
Follows old new (Goes written) = old.reader.count ≤ new.reader.count
Follows old new (Stops written status) = Unit {0}

-- the session goes on with bytes that may be written as this reply
abbrev pub IsAnswer : Reply → Move → Type 0
IsAnswer reply (Goes written) = Spells reply written
IsAnswer reply (Stops written status) = ⊥

-- the session stops with this text and status; out of memory is free
abbrev pub IsStop : List ℕ → Status → Result Move Halt → Type 0
IsStop text status (Ok (Goes written)) = ⊥
IsStop text status (Ok (Stops written ended)) = (written ≡ text) × (ended ≡ status)
IsStop text status (Err ReadFault) = ⊥
IsStop text status (Err Memory) = Unit {0}

-- What is done where nothing could be taken: `at_end` where the input ended first, `at_limit` where a line is too long.
abbrev pub Refuses : TakeRefusal → (at_end at_limit : Result Move Halt → Type 0) → Result Move Halt → Type 0
Refuses take_.ReadFault at_end at_limit result = result ≡ Err ReadFault
Refuses take_.End at_end at_limit result = at_end result
Refuses take_.TooLong at_end at_limit result = at_limit result
Refuses take_.Full at_end at_limit result = IsStop large_text Size result
Refuses take_.Memory at_end at_limit result = result ≡ Err Memory

-- it can't come
abbrev pub Never : Result Move Halt → Type 0
Never result = ⊥

-- what becomes of the files at a `put` whose bytes were taken
abbrev pub PutsIn : Holder → Holder → List ℕ → List ℕ → Result Move Halt → Type 0
PutsIn old new name file (Ok (Goes written)) =
    (written ≡ []) × (put_is_refused old.files name ≡ false)
    × (new ≡ record old { files = put_file old.files name file })
PutsIn old new name file (Ok (Stops written status)) =
    (written ≡ large_text) × (status ≡ Size) × (put_is_refused old.files name ≡ true) × (new ≡ old)
PutsIn old new name file (Err ReadFault) = ⊥
PutsIn old new name file (Err Memory) = Unit {0}
