-- A session whose input is a list of commands comes to its end.
use Rattle.std.proofs.Common.{◌≡◌, ℕ, ◌+◌, ◌-◌, ◌<◌, ◌≤◌, Bool, true, false, cond, nat_lt, List, [], ◌∷◌, ◌++◌, length}
use Rattle.std.proofs.Common.{Some, refl, sym, subst, ap, ◌∙◌, arith, codes, length-append, inl, inr, ◌⊎◌}
use Rattle.std.proofs.lemmas.Bool.Decides.{nat_tests}
use Rattle.larch_base.specs.declared.limits.TheConstants.{MAX_FILE_BYTES, MAX_SOURCE_BYTES}
use Rattle.larch_report.specs.Counts.{counts_of, is_good}
use Rattle.larch_session_derive_meaning.specs.SessionMeaningFiles.{report_of}
use Rattle.larch_main_status.specs.TraitsFiles.{Table, drop_file, put_file}
use Rattle.larch_main_session.specs.declared.command.Command.TheVariants.{Put}
use Rattle.larch_main_status.specs.declared.status.Status.{Status}
use Rattle.larch_main_status.specs.declared.status.Status.TheVariants.{Good, Remains, Size}
use Rattle.larch_main_session.specs.Command.{command_of, number_of_digits}
use Rattle.larch_main_status.specs.Status.{IsDone}
use Rattle.larch_main_session.specs.Input.{Entry}
use Rattle.larch_main_session.specs.Input.{IsSpelled, empty_line, put_line, drop_line, report_line, derive_line}
use Rattle.larch_main_session.specs.Input.{quit_line}
use Rattle.larch_main_session.specs.Input.{IsInputOf, no_more, one_more, last_one, quit_before}
use Rattle.larch_main_session.specs.Input.{HasRoom, bytes_behind, files_behind}
use Rattle.larch_main_session.specs.Lines.{bytes, line, line_at, bytes_at}
use Rattle.larch_main_session.specs.Session.{State, took, start, Step, goes, stops, waits, step, on_line, on_command}
use Rattle.larch_main_session.specs.Session.{on_bytes}
use Rattle.larch_main_status.specs.Limits.{put_is_refused}
use Rattle.larch_main_session.specs.Replies.{Reply, nothing, said}
use Rattle.larch_main_session.specs.Session.{room_left, status_of, large_text}
use Rattle.larch_main_session.specs.Session.{Course, Session, goes_on, ends, with_status}
use Rattle.larch_main_session.proofs.Found.{bytes_found, last_found, line_found, none_found}
use Rattle.larch_main_session.proofs.Once.{once}
use Rattle.larch_main_session.proofs.Spelled.{derive_is_spelled, drop_is_spelled, put_is_spelled, spelled_is_line}

-- from this state, on this whole input, a session is done
abbrev IsDoneOn : State → List ℕ → Type 0
IsDoneOn state input =
    (replies : List Reply) × (status : Status) × (last : State) × IsDone status
    × Course true state input replies (with_status status) last

-- a step that leads there
abbrev LeadsOn : Step → Type 0
LeadsOn (goes next reply rest) = IsDoneOn next rest
LeadsOn (stops last text status) = IsDone status
LeadsOn waits = ⊥

by_step : (state : State) (input : List ℕ) (made : Step) → step true state input ≡ made → LeadsOn made
    → IsDoneOn state input
by_step state input (goes next reply rest) is end =
    (reply ∷ end.0, end.1, end.2, end.3, goes_on reply is end.4)
by_step state input (stops last text status) is end = (said text ∷ [], status, last, end, ends is)
by_step state input waits is end = absurd end

status_done : (state : State) → IsDone (status_of state)
status_done state = by state.good
  where
    by : (b : Bool) → IsDone (cond b Good Remains)
    by true = tt
    by false = tt

-- what may still come of a session that has taken so much
abbrev Fits : State → List ℕ → Type 0
Fits state input = state.taken + length input ≤ MAX_SOURCE_BYTES

-- of the two that a test chooses between the second is it
else_leads : (b : Bool) (x y : Step) → b ≡ false → LeadsOn y → LeadsOn (cond b x y)
else_leads true x y e leads = cc
else_leads false x y e leads = leads

-- a `put` within the limits puts its file in
put_leads : (before : ℕ) (state : State) (name file rest : List ℕ) (count : ℕ) → count ≡ length file
    → length file ≤ MAX_FILE_BYTES → put_is_refused state.files name ≡ false → Fits state (file ++ rest)
    → ((next : State) → next.files ≡ put_file state.files name file → Fits next rest → IsDoneOn next rest)
    → LeadsOn (on_command true before state (file ++ rest) (Some (Put name count)))
put_leads before state name file rest count is short room fits more =
    let long = length-append file rest in
    let small : nat_lt MAX_FILE_BYTES count ≡ false = grind (arith, nat_tests) in
    let found : bytes_at true (room_left state) count (file ++ rest) ≡ bytes file rest =
    ap (λ n. bytes_at true (room_left state) n (file ++ rest)) is
    ∙ bytes_found true (room_left state) file rest (omega (arith, long, fits)) in
    let behind : State = took state (file ++ rest) rest in
    let next : State = record behind { files = put_file state.files name file } in
    let fitting : state.taken + (length (file ++ rest) - length rest) + length rest ≤ MAX_SOURCE_BYTES =
    omega (arith, long, fits) in
    else_leads (nat_lt MAX_FILE_BYTES count) (stops state large_text Size) _ small
    (subst (λ f. LeadsOn (on_bytes before state name (file ++ rest) f)) (sym found)
    (else_leads (put_is_refused state.files name) (stops behind large_text Size) (goes next nothing rest) room
    (more next refl fitting)))

-- a command that its line spells is carried out
command_leads : {entry : Entry} {words : List ℕ} (before : ℕ) (state : State) (rest : List ℕ)
    → IsSpelled entry words → HasRoom state.files entry → Fits state (bytes_behind entry ++ rest)
    → ((next : State) → next.files ≡ files_behind state.files entry → Fits next rest → IsDoneOn next rest)
    → LeadsOn (on_command true before state (bytes_behind entry ++ rest) (command_of words))
command_leads before state rest empty_line room fits more = more state refl fits
command_leads before state rest (put_line name file digits blank between p q named form number short) room fits more =
    subst (λ c. LeadsOn (on_command true before state (file ++ rest) c))
    (sym (put_is_spelled name digits blank between p q named form))
    (put_leads before state name file rest (number_of_digits digits) number short room fits more)
command_leads before state rest (drop_line name blank p named) room fits more =
    subst (λ c. LeadsOn (on_command true before state rest c)) (sym (drop_is_spelled name blank p named))
    (more (record state { files = drop_file state.files name }) refl fits)
command_leads before state rest report_line room fits more =
    more (record state { good = is_good (counts_of (report_of state.limit state.files)) }) refl fits
command_leads before state rest (derive_line stem word label blank between p q named is) room fits more =
    subst (λ c. LeadsOn (on_command true before state rest c))
    (sym (derive_is_spelled stem word label blank between p q named is))
    (more state refl fits)
command_leads before state rest quit_line room fits more = status_done state

-- the state once a line is taken
line_leads : {entry : Entry} (state : State) (input words rest : List ℕ) → IsSpelled entry words
    → HasRoom state.files entry
    → line_at true (room_left state) input ≡ line words (bytes_behind entry ++ rest)
    → length (bytes_behind entry ++ rest) ≤ length input → Fits state input
    → ((next : State) → next.files ≡ files_behind state.files entry → Fits next rest → IsDoneOn next rest)
    → IsDoneOn state input
line_leads {entry} state input words rest spells room found within fits more =
    let behind : List ℕ = bytes_behind entry ++ rest in
    let taken : State = took state input behind in
    let made : Step = on_command true state.taken taken behind (command_of words) in
    let fitting : state.taken + (length input - length (bytes_behind entry ++ rest))
    + length (bytes_behind entry ++ rest) ≤ MAX_SOURCE_BYTES = omega (arith, within, fits) in
    by_step state input made (ap (on_line true state input) found)
    (command_leads state.taken taken rest spells room fitting more)

-- where nothing is left it ends
nothing_left : (state : State) → IsDoneOn state []
nothing_left state =
    by_step state [] (stops state [] (status_of state)) (ap (on_line true state []) (none_found (room_left state)))
    (status_done state)

some_or_none : (xs : List ℕ) → (xs ≡ []) ⊎ (0 < length xs)
some_or_none [] = inl refl
some_or_none (x ∷ xs) = inr (omega arith)

done_on : {files : Table} {entries : List Entry} {input : List ℕ} → IsInputOf files entries input
    → (state : State) → state.files ≡ files → Fits state input → IsDoneOn state input
done_on no_more state same fits = nothing_left state
done_on {files} (one_more {entry = entry} {rest = rest} words spells room more) state same fits =
    let long = length-append words (10 ∷ (bytes_behind entry ++ rest)) in
    line_leads state (words ++ (10 ∷ (bytes_behind entry ++ rest))) words rest spells
    (subst (λ t. HasRoom t entry) (sym same) room)
    (line_found true (room_left state) words (bytes_behind entry ++ rest) (spelled_is_line spells)
    (omega (arith, long, fits)))
    (omega (arith, long)) fits
    (λ next is fitting. done_on more next (is ∙ ap (λ t. files_behind t entry) same) fitting)
done_on {files} (last_one {entry = entry} words spells room none) state same fits = elim (some_or_none words) [
  | inl empty ↦ subst (IsDoneOn state) (sym empty) (nothing_left state)
  | inr some ↦
      let behind : bytes_behind entry ++ [] ≡ [] = ap (λ xs. xs ++ []) none in
      let found : line_at true (room_left state) words ≡ line words (bytes_behind entry ++ []) =
      last_found (room_left state) words (spelled_is_line spells) some (omega (arith, fits))
      ∙ ap (line words) (sym behind) in
      let size : length (bytes_behind entry ++ []) ≡ 0 = ap length behind in
      line_leads state words words [] spells (subst (λ t. HasRoom t entry) (sym same) room) found
      (omega (arith, size)) fits (λ next is fitting. nothing_left next)
]
done_on (quit_before rest) state same fits =
    let long = length-append (codes "quit") (10 ∷ rest) in
    by_step state (codes "quit" ++ (10 ∷ rest)) _
    (ap (on_line true state (codes "quit" ++ (10 ∷ rest)))
    (line_found true (room_left state) (codes "quit") rest (spelled_is_line quit_line) (omega (arith, long, fits))))
    (status_done state)

same_status : (one other : Status) → with_status one ≡ with_status other → IsDone one → IsDone other
same_status one other e is = subst IsDone (let same : one ≡ other = cc in same) is

-- each session on such an input ends so
pub input_is_done : (limit : ℕ) (entries : List Entry) (input output : List ℕ) (status : Status) (last : State)
    → IsInputOf [] entries input → length input ≤ MAX_SOURCE_BYTES
    → Session true (start limit) input output (with_status status) last → IsDone status
input_is_done limit entries input output status last is fits session =
    let end = done_on is (start limit) refl (omega (arith, fits)) in
    same_status end.1 status (once end.4 session.course).1 end.3
