-- What a session writes, as a machine over the bytes of its input.
use Rattle.std.specs.Prelude.{◌≡◌, ℕ, ◌+◌, ◌-◌, nat_lt, if◌then◌else◌, Bool, true}
use Rattle.std.specs.Prelude.{List, [], ◌∷◌, ◌++◌, length, decimal, codes, Option, Some, None, IfSome}
use Rattle.larch_base.specs.declared.limits.TheConstants.{MAX_FILE_BYTES, MAX_SOURCE_BYTES}
use Rattle.larch_report.specs.Counts.{counts_of, is_good}
use Rattle.larch_session_derive_meaning.specs.SessionMeaningFiles.{report_of}
use Rattle.larch_main_status.specs.TraitsFiles.{Table, drop_file, put_file}
use Rattle.larch_main_status.specs.Limits.{put_is_refused}
use Rattle.larch_main_status.specs.declared.status.Status.{Status}
use Rattle.larch_main_status.specs.declared.status.Status.TheVariants.{Good, Remains, Malformed, Size}
use Rattle.larch_main_session.specs.declared.command.Command.{Command}
use Rattle.larch_main_session.specs.declared.command.Command.TheVariants.{Skip, Put, Drop, Report, Derive, Quit}
use Rattle.larch_main_session.specs.Command.{command_of}
use Rattle.larch_main_session.specs.Lines.{LineFound, line, no_line, long_line, full, unfinished, line_at}
use Rattle.larch_main_session.specs.Lines.{BytesFound, bytes, cut, too_many, wanting, bytes_at}
use Rattle.larch_main_session.specs.Replies.{Reply, said, reported, derived, nothing, Spells, Texts, Front}

-- a session between two commands
pub record State : Type 0 where
  -- the rewriting limit with which each duty begins
  pub limit : ℕ
  -- its files
  pub files : Table
  -- how many bytes were taken
  pub taken : ℕ
  -- whether in the last report nothing was wrong and all was proved
  pub good : Bool

-- no files, no bytes, no report
abbrev pub start : ℕ → State
start limit = record { limit = limit; files = []; taken = 0; good = true }

-- how many bytes may still be taken
abbrev pub room_left : State → ℕ
room_left state = MAX_SOURCE_BYTES - state.taken

-- the state once the bytes of `input` before `rest` are taken
abbrev pub took : State → List ℕ → List ℕ → State
took state input rest = record state { taken = state.taken + (length input - length rest) }

-- the status where the session ends by itself
abbrev pub status_of : State → Status
status_of state = if state.good then Good else Remains

-- what is written where the input leaves the grammar: the number of bytes before the line
abbrev pub malformed_text : ℕ → List ℕ
malformed_text before = codes "malformed at byte " ++ decimal before ++ codes "\n"

abbrev pub large_text : List ℕ
large_text = codes "too large\n"

-- one step of a session
pub data Step : Type 0 where
  -- a whole command was carried out: the state behind it, its reply, and the bytes behind it
  goes : (next : State) (reply : Reply) (rest : List ℕ) → Step
  -- the session ends in this state, with this text and status
  stops : (last : State) (text : List ℕ) (status : Status) → Step
  -- the bytes end inside a command, and more may come
  waits : Step

abbrev pub on_file : State → List ℕ → List ℕ → List ℕ → Step
on_file state name file rest =
    if put_is_refused state.files name then stops state large_text Size
    else goes (record state { files = put_file state.files name file }) nothing rest

-- the bytes of a `put` whose line begins behind `before` bytes, the state being the one behind the line
abbrev pub on_bytes : ℕ → State → List ℕ → List ℕ → BytesFound → Step
on_bytes before state name input (bytes file rest) = on_file (took state input rest) name file rest
on_bytes before state name input cut = stops state (malformed_text before) Malformed
on_bytes before state name input too_many = stops state large_text Size
on_bytes before state name input wanting = waits

-- a line's command, the state being the one behind the line
abbrev pub on_command : Bool → ℕ → State → List ℕ → Option Command → Step
on_command ended before state rest None = stops state (malformed_text before) Malformed
on_command ended before state rest (Some Skip) = goes state nothing rest
on_command ended before state rest (Some Report) =
    goes (record state { good = is_good (counts_of (report_of state.limit state.files)) })
    (reported state.limit state.files) rest
on_command ended before state rest (Some (Derive stem label)) =
    goes state (derived state.limit state.files stem label) rest
on_command ended before state rest (Some Quit) = stops state [] (status_of state)
on_command ended before state rest (Some (Drop name)) =
    goes (record state { files = drop_file state.files name }) nothing rest
on_command ended before state rest (Some (Put name count)) =
    if nat_lt MAX_FILE_BYTES count then stops state large_text Size
    else on_bytes before state name rest (bytes_at ended (room_left state) count rest)

abbrev pub on_line : Bool → State → List ℕ → LineFound → Step
on_line ended state input (line words rest) =
    on_command ended state.taken (took state input rest) rest (command_of words)
on_line ended state input no_line = stops state [] (status_of state)
on_line ended state input long_line = stops state (malformed_text state.taken) Malformed
on_line ended state input full = stops state large_text Size
on_line ended state input unfinished = waits

-- the first step on these bytes; where `ended` is true no others follow
abbrev pub step : Bool → State → List ℕ → Step
step ended state input = on_line ended state input (line_at ended (room_left state) input)

-- all that a source has left, where it tells
abbrev pub IsInput : Option (List ℕ) → List ℕ → Type 0
IsInput left input = IfSome left (λ bytes. bytes ≡ input)

-- how a session leaves off: with a status, or waiting for bytes that don't come
pub data Ending : Type 0 where
  with_status : Status → Ending
  waiting : Ending

-- From a state, on these bytes, a session gives these replies and leaves off so, in the state `last`.
pub data Course (ended : Bool) : State → List ℕ → List Reply → Ending → State → Type 0 where
  goes_on : {state next last : State} {input rest : List ℕ} {replies : List Reply} {ending : Ending} (reply : Reply)
      → step ended state input ≡ goes next reply rest
      → Course ended next rest replies ending last
      → Course ended state input (reply ∷ replies) ending last
  ends : {state last : State} {input text : List ℕ} {status : Status}
      → step ended state input ≡ stops last text status
      → Course ended state input (said text ∷ []) (with_status status) last
  breaks_off : {state : State} {input : List ℕ}
      → step ended state input ≡ waits
      → Course ended state input [] waiting state

-- The same, and it writes `output`: of each reply, bytes that may be written as it.
pub record Session (ended : Bool) (state : State) (input output : List ℕ) (ending : Ending) (last : State)
    : Type 0 where
  pub replies : List Reply
  pub course : Course ended state input replies ending last
  pub texts : Texts Spells replies output

-- These bytes are a front of what it writes on this whole input: of such bytes of its replies, one behind the other.
pub record SessionBegins (state : State) (input front : List ℕ) : Type 0 where
  pub replies : List Reply
  pub status : Status
  pub last : State
  pub course : Course true state input replies (with_status status) last
  pub fronts : Front Spells replies front
