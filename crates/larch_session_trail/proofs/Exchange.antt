-- Common fronts of blocks.
use Rattle.std.proofs.Common.{◌≡◌, refl, sym, ap, subst, ◌∙◌, arith, ℕ, zero, suc, ◌+◌, ◌<◌, Bool, true, false}
use Rattle.std.proofs.Common.{if◌then◌else◌, List, [], ◌∷◌, ◌++◌, drop, get_or, length, min, take, Result, Ok, Err}
use Rattle.std.proofs.lemmas.List.{drop_more, take_more}
use Rattle.larch_prove.specs.declared.state.ProofState.{ProofState}
use Rattle.larch_prove_meaning.specs.Levels.{Proof}
use Rattle.larch_prove_meaning.specs.Redo.{behind_common}
use Rattle.larch_prove_meaning.specs.Replays.{AtCommand, Refusal, locate, told_number}
use Rattle.larch_prove_meaning.specs.Scripts.{commands_of}
use Rattle.larch_prove_meaning.proofs.Positions.{step_alike}
use Rattle.larch_script_commands.specs.Same.{same_kind}
use Rattle.larch_script_commands.specs.declared.command.CommandKind.{CommandKind}
use Rattle.larch_script_commands.specs.declared.command.RawCommand.{RawCommand}
use Rattle.larch_script_commands.proofs.Decided.{kind_Decides}
use Rattle.larch_session_trail.specs.Trail.{AreStates, common, then_command}
use Rattle.larch_term.specs.declared.statement.Statement.{Statement}

abbrev Answer : Type 0
Answer = Result Proof Refusal

-- ---- how many

count_by : (t : Bool) (b n k : ℕ) → b + k ≡ n → (if t then b else suc n) + (if t then suc k else 0) ≡ suc n
count_by true b n k e = omega (arith, e)
count_by false b n k e = omega arith

pub common_behind : (bs cs : List CommandKind) → behind_common bs cs + common bs cs ≡ length cs
common_behind [] cs = omega arith
common_behind (b ∷ bs) [] = refl
common_behind (b ∷ bs) (c ∷ cs) =
    count_by (same_kind b c) (behind_common bs cs) (length cs) (common bs cs) (common_behind bs cs)

-- ---- equal commands lead to the same

alike : (answer : Answer) (b c : CommandKind) → same_kind b c ≡ true → then_command answer b ≡ then_command answer c
alike (Ok p) b c e =
    ap (locate (AtCommand (told_number (p.commands + 1)))) (step_alike b c p ((kind_Decides b c).0 e))
alike (Err r) b c e = refl

exchange_by : (t : Bool) (s : Statement) (answer : Answer) (b c : CommandKind) (bs cs : List CommandKind)
    (x : ProofState) (ys : List ProofState) → same_kind b c ≡ t
    → ((a : Answer) (z : ProofState) (zs : List ProofState) → AreStates s a (take (common bs cs) bs) z zs
    → AreStates s a (take (common bs cs) cs) z zs)
    → AreStates s answer (take (if t then suc (common bs cs) else 0) (b ∷ bs)) x ys
    → AreStates s answer (take (if t then suc (common bs cs) else 0) (c ∷ cs)) x ys
exchange_by true s answer b c bs cs x [] e f h = h
exchange_by true s answer b c bs cs x (y ∷ ys) e f h = (
  h.0,
  f (then_command answer c) y ys
      (subst (λ (a : Answer). AreStates s a (take (common bs cs) bs) y ys) (alike answer b c e) h.1),
)
exchange_by false s answer b c bs cs x ys e f h = h

pub exchange : (s : Statement) (answer : Answer) (bs cs : List CommandKind) (x : ProofState) (ys : List ProofState)
    → AreStates s answer (take (common bs cs) bs) x ys → AreStates s answer (take (common bs cs) cs) x ys
exchange s answer [] cs x ys h = h
exchange s answer (b ∷ bs) [] x ys h = h
exchange s answer (b ∷ bs) (c ∷ cs) x ys h =
    exchange_by (same_kind b c) s answer b c bs cs x ys refl (λ a z zs k. exchange s a bs cs z zs k) h

-- ---- counted command by command

not_same : (b c : CommandKind) (t : Bool) (k : ℕ) → t ≡ same_kind b c → (same_kind b c ≡ true → ⊥)
    → (if t then suc k else 0) ≡ 0
not_same b c true k e differ = absurd (differ (sym e))
not_same b c false k e differ = refl

-- the next commands differ, or are equal
pub stops : (n i : ℕ) (b c : RawCommand) (bs cs : List RawCommand) → (same_kind b.kind c.kind ≡ true → ⊥)
    → n ≡ i + common (commands_of (b ∷ bs)) (commands_of (c ∷ cs)) → i ≡ n
stops n i b c bs cs differ e =
    let z = not_same b.kind c.kind (same_kind b.kind c.kind) (common (commands_of bs) (commands_of cs)) refl differ in
    omega (arith, e, z)

pub onward : (n i : ℕ) (b c : RawCommand) (bs cs : List RawCommand) → same_kind b.kind c.kind ≡ true
    → n ≡ i + common (commands_of (b ∷ bs)) (commands_of (c ∷ cs))
    → n ≡ (i + 1) + common (commands_of bs) (commands_of cs)
onward n i b c bs cs same e =
    let k = common (commands_of bs) (commands_of cs) in
    let z : common (commands_of (b ∷ bs)) (commands_of (c ∷ cs)) ≡ suc k = ap (λ t. if t then suc k else 0) same in
    omega (arith, e, z)

common_none : (bs : List CommandKind) → common bs [] ≡ 0
common_none [] = refl
common_none (b ∷ bs) = refl

none_left : (i : ℕ) (bs cs : List RawCommand) → i ≡ min (length bs) (length cs)
    → common (commands_of (drop i bs)) (commands_of (drop i cs)) ≡ 0
none_left zero [] cs e = refl
none_left (suc i) [] cs e = refl
none_left zero (b ∷ bs) [] e = refl
none_left (suc i) (b ∷ bs) [] e = common_none (commands_of (drop i bs))
none_left zero (b ∷ bs) (c ∷ cs) e = absurd (omega (arith, e))
none_left (suc i) (b ∷ bs) (c ∷ cs) e = none_left i bs cs (omega (arith, e))

-- there are no further commands on one of both sides
pub ends : (n i : ℕ) (bs cs : List RawCommand) → i ≡ min (length bs) (length cs)
    → n ≡ i + common (commands_of (drop i bs)) (commands_of (drop i cs)) → i ≡ n
ends n i bs cs e f = let z = none_left i bs cs e in omega (arith, f, z)

-- what is left begins with the command of the next place
pub drop_item : (cs : List RawCommand) (i : ℕ) (c : RawCommand) → i < length cs → c ≡ get_or cs i c
    → drop i cs ≡ c ∷ drop (i + 1) cs
drop_item cs i c lt e = drop_more cs i c lt ∙ ap (λ x. x ∷ drop (i + 1) cs) (sym e)

pub take_item : (cs : List RawCommand) (i : ℕ) (c : RawCommand) → i < length cs → c ≡ get_or cs i c
    → take (i + 1) cs ≡ take i cs ++ c ∷ []
take_item cs i c lt e = take_more cs i c lt ∙ ap (λ x. take i cs ++ x ∷ []) (sym e)
