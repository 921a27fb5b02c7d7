-- What every step of a session keeps, and that every session ends.
use Rattle.std.proofs.Common.{◌≡◌, ℕ, zero, suc, ◌+◌, ◌<◌, ◌≤◌, ◌&&◌, ◌==◌, Bool, true, false, not, cond, nat_lt}
use Rattle.std.proofs.Common.{nat_le, List, [], ◌∷◌, length, take, drop, Option, Some, None, refl, arith, length-drop}
use Rattle.std.specs.List.{position_or_len}
use Rattle.std.proofs.lemmas.Bool.Decides.{nat_tests}
use Rattle.std.proofs.lemmas.List.Sums.{prefix_len-le-length}
use Rattle.larch_main_status.specs.declared.status.Status.TheVariants.{Good, Remains, Size}
use Rattle.larch_main_session.specs.declared.command.Command.{Command}
use Rattle.larch_main_session.specs.declared.command.Command.TheVariants.{Skip, Put, Drop, Report, Derive, Quit}
use Rattle.larch_base.specs.declared.limits.TheConstants.{MAX_FILE_BYTES, MAX_LINE_BYTES}
use Rattle.larch_main_session.specs.Command.{command_of}
use Rattle.larch_main_status.specs.Status.{IsEnd}
use Rattle.larch_main_session.specs.Laws.{Ends}
use Rattle.larch_main_session.specs.Lines.{is_newline, passes_room, LineFound, line, no_line, long_line, full}
use Rattle.larch_main_session.specs.Lines.{unfinished}
use Rattle.larch_main_session.specs.Lines.{line_at, line_of_size, BytesFound, bytes, cut, too_many, wanting, bytes_at}
use Rattle.larch_main_session.specs.Session.{State, took, Step, goes, stops, waits, step, on_line, on_command, on_bytes}
use Rattle.larch_main_status.specs.Limits.{put_is_refused}
use Rattle.larch_main_session.specs.Replies.{said}
use Rattle.larch_main_session.specs.Session.{room_left, status_of, large_text}
use Rattle.larch_main_session.specs.Session.{goes_on, ends}

-- a step on so many bytes that goes on leaves fewer, one that stops has such a status, and one waits only where more
-- may come
abbrev pub Shape : Bool → ℕ → Step → Type 0
Shape ended size (goes state reply rest) = length rest < size
Shape ended size (stops last text status) = IsEnd status
Shape ended size waits = ended ≡ false

abbrev LineShape : Bool → ℕ → LineFound → Type 0
LineShape ended size (line text rest) = length rest < size
LineShape ended size no_line = Unit {0}
LineShape ended size long_line = Unit {0}
LineShape ended size full = Unit {0}
LineShape ended size unfinished = ended ≡ false

abbrev BytesShape : Bool → ℕ → BytesFound → Type 0
BytesShape ended size (bytes text rest) = length rest ≤ size
BytesShape ended size cut = Unit {0}
BytesShape ended size too_many = Unit {0}
BytesShape ended size wanting = ended ≡ false

-- what holds of both holds of the one that is chosen
chosen : {A : Type 0} (P : A → Type 0) (b : Bool) (x y : A) → (b ≡ true → P x) → (b ≡ false → P y) → P (cond b x y)
chosen P true x y p q = p refl
chosen P false x y p q = q refl

not_true : (b : Bool) → not b ≡ true → b ≡ false
not_true true e = cc
not_true false e = refl

lt_true : (a b : ℕ) → nat_lt a b ≡ true → a < b
lt_true a b e = grind (arith, nat_tests)

eq_false : (a : ℕ) → (a == 0) ≡ false → 0 < a
eq_false a e = grind (arith, nat_tests)

line_shape : (ended : Bool) (room size : ℕ) (input : List ℕ) → size ≤ length input
    → LineShape ended (length input) (line_of_size ended room size input)
line_shape ended room size input within =
    chosen (LineShape ended (length input)) (passes_room room size input) full _ (λ _. tt) (λ _.
    chosen (LineShape ended (length input)) (nat_lt MAX_LINE_BYTES size) long_line _ (λ _. tt) (λ _.
    chosen (LineShape ended (length input)) (nat_lt size (length input))
    (line (take size input) (drop (size + 1) input)) _
    (λ e. let inside = lt_true size (length input) e in omega (arith, length-drop (size + 1) input)) (λ e.
    chosen (LineShape ended (length input)) (not ended) unfinished _ (λ n. not_true ended n) (λ _.
    chosen (LineShape ended (length input)) (size == 0) no_line (line input []) (λ _. tt)
    (λ n. let some = eq_false size n in omega arith)))))

bytes_shape : (ended : Bool) (room count : ℕ) (input : List ℕ)
    → BytesShape ended (length input) (bytes_at ended room count input)
bytes_shape ended room count input =
    chosen (BytesShape ended (length input)) (nat_le count (length input) && nat_le count room)
    (bytes (take count input) (drop count input)) _ (λ _. omega (arith, length-drop count input)) (λ _.
    chosen (BytesShape ended (length input)) (nat_lt room (length input)) too_many _ (λ _. tt) (λ _.
    chosen (BytesShape ended (length input)) (not ended) wanting cut (λ n. not_true ended n) (λ _. tt)))

status_shape : (state : State) → IsEnd (status_of state)
status_shape state = chosen IsEnd state.good Good Remains (λ _. tt) (λ _. tt)

bytes_step : (ended : Bool) (size before : ℕ) (state : State) (name input : List ℕ) (found : BytesFound)
    → length input < size → BytesShape ended (length input) found
    → Shape ended size (on_bytes before state name input found)
bytes_step ended size before state name input (bytes text rest) less shape =
    chosen (Shape ended size) (put_is_refused state.files name) (stops (took state input rest) large_text Size) _
    (λ _. tt) (λ _. let p : length rest ≤ length input = shape in omega arith)
bytes_step ended size before state name input cut less shape = tt
bytes_step ended size before state name input too_many less shape = tt
bytes_step ended size before state name input wanting less shape = shape

command_step : (ended : Bool) (size before : ℕ) (state : State) (rest : List ℕ) (command : Option Command)
    → length rest < size → Shape ended size (on_command ended before state rest command)
command_step ended size before state rest None less = tt
command_step ended size before state rest (Some Skip) less = less
command_step ended size before state rest (Some Report) less = less
command_step ended size before state rest (Some (Derive stem label)) less = less
command_step ended size before state rest (Some Quit) less = status_shape state
command_step ended size before state rest (Some (Drop name)) less = less
command_step ended size before state rest (Some (Put name count)) less =
    chosen (Shape ended size) (nat_lt MAX_FILE_BYTES count) (stops state large_text Size) _ (λ _. tt)
    (λ _. bytes_step ended size before state name rest (bytes_at ended (room_left state) count rest) less
    (bytes_shape ended (room_left state) count rest))

line_step : (ended : Bool) (state : State) (input : List ℕ) (found : LineFound) → LineShape ended (length input) found
    → Shape ended (length input) (on_line ended state input found)
line_step ended state input (line text rest) shape =
    command_step ended (length input) state.taken (took state input rest) rest (command_of text) shape
line_step ended state input no_line shape = status_shape state
line_step ended state input long_line shape = tt
line_step ended state input full shape = tt
line_step ended state input unfinished shape = shape

pub step_shape : (ended : Bool) (state : State) (input : List ℕ) → Shape ended (length input) (step ended state input)
step_shape ended state input =
    line_step ended state input (line_at ended (room_left state) input)
    (line_shape ended (room_left state) (position_or_len is_newline input) input
    (prefix_len-le-length (λ byte. not (is_newline byte)) input))

ends_after : (state : State) (input : List ℕ) (made : Step) → step true state input ≡ made
    → Shape true (length input) made
    → ((next : State) (rest : List ℕ) → length rest < length input → Ends next rest) → Ends state input
ends_after state input (goes next reply rest) is shape more =
    let end = more next rest shape in
    (reply ∷ end.0, end.1, end.2, end.3, goes_on reply is end.4)
ends_after state input (stops last text status) is shape more = (said text ∷ [], status, last, shape, ends is)
ends_after state input waits is shape more = cc

ends_within : (size : ℕ) (state : State) (input : List ℕ) → length input < size → Ends state input
ends_within zero state input less = absurd (omega arith)
ends_within (suc size) state input less =
    ends_after state input (step true state input) refl (step_shape true state input)
    (λ next rest shorter. ends_within size next rest (omega arith))

-- on every input, from every state, a session ends
pub session_ends : (state : State) (input : List ℕ) → Ends state input
session_ends state input = ends_within (length input + 1) state input (omega arith)
