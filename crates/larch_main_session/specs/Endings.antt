-- What a whole session writes and takes, by its status.
use Rattle.std.specs.Prelude.{◌⊎◌, ℕ, true, false, List, Option}
use Rattle.std.specs.Io.KnownBytes.{Appends, Consumes, IsAtEnd}
use Rattle.larch_main_session.specs.Session.{State, IsInput, Session, SessionBegins, start, waiting, with_status}
use Rattle.larch_main_status.specs.declared.status.Status.{Status}
use Rattle.larch_main_status.specs.declared.status.Status.TheVariants.{Good, Remains, Words, ReadFault, WriteFault}
use Rattle.larch_main_status.specs.declared.status.Status.TheVariants.{Memory, Malformed, Size, NoFile}

-- The rewriting limit is this; the source had `left` before the session and has `leaves` after it, the sink held `held`
-- and holds `holds`.
module _ (limit : ℕ) (left leaves held holds : Option (List ℕ)) where
  -- the defined output was written, whole
  pub record SessionAnswers (status : Status) : Type 0 where
    pub input : List ℕ
    pub output : List ℕ
    pub last : State
    pub is_input : IsInput left input
    pub session : Session true (start limit) input output (with_status status) last
    pub written : Appends held holds output

  -- a front of the defined output was written
  pub record SessionFront : Type 0 where
    pub input : List ℕ
    pub front : List ℕ
    pub is_input : IsInput left input
    pub begins : SessionBegins (start limit) input front
    pub written : Appends held holds front

  -- the replies to the whole commands in the bytes that the source gave were written: the session waits for more
  pub record BreaksOff : Type 0 where
    pub given : List ℕ
    pub output : List ℕ
    pub last : State
    pub gave : Consumes left leaves given
    pub replies : Session false (start limit) given output waiting last
    pub written : Appends held holds output

  -- what was written, by the status
  abbrev pub SessionWrites : Status → Type 0
  SessionWrites ReadFault = BreaksOff
  SessionWrites WriteFault = SessionFront
  SessionWrites Memory = SessionFront
  SessionWrites Good = SessionAnswers Good
  SessionWrites Remains = SessionAnswers Remains
  SessionWrites Malformed = SessionAnswers Malformed
  SessionWrites Size = SessionAnswers Size
  SessionWrites Words = ⊥
  SessionWrites NoFile = ⊥

  -- The bytes that the source gave are the whole input, or end the session whatever follows them; and what the session
  -- answers to them was written.
  pub record TakesWhole (status : Status) : Type 0 where
    pub given : List ℕ
    pub output : List ℕ
    pub last : State
    pub gave : Consumes left leaves given
    pub whole : (Session true (start limit) given output (with_status status) last × IsAtEnd leaves)
        ⊎ Session false (start limit) given output (with_status status) last
    pub written : Appends held holds output

  -- which statuses say that the input was taken to its end or through `quit`
  abbrev pub TakesInput : Status → Type 0
  TakesInput Good = TakesWhole Good
  TakesInput Remains = TakesWhole Remains
  TakesInput _ = Unit {0}
