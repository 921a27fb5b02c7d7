-- Kinds of commands, and in which order they are refused.
use Rattle.std.specs.Prelude.{◌≡◌, ◌<◌, ◌≤◌, ◌+◌, ◌==◌, ℕ, Bool, true, false, not, List, [], ◌∷◌, length, refl}
use Rattle.std.specs.Prelude.{Ok, Err, Result, Vec, vec_len}
use Rattle.std.specs.declared.alloc.Global.{Global}
use Rattle.std.proofs.Common.{ap, arith, le-ltb, lt-ltb, ne_eqb, subst, sym, ◌∙◌}
use Rattle.larch_base.specs.declared.code.Code.{Code}
use Rattle.larch_base.specs.declared.code.Code.TheVariants as refusal
use Rattle.larch_base.specs.declared.limits.TheConstants.{MAX_COMMANDS}
use Rattle.larch_base.specs.declared.way.Way.{Way}
use Rattle.larch_prove.specs.Kinds.{HasTurn, IsCommand, WorksOnProof, in_turn}
use Rattle.larch_prove_meaning.specs.Levels.{Proof, unless}
use Rattle.larch_prove_meaning.specs.Replays.{by_kind, is_quiet, step, unless_marks_wait, unless_proved}
use Rattle.larch_prove_meaning.specs.Steps.{carried_out, check_boxes}
use Rattle.larch_prove_beginning.specs.ProveSettingsTelling.{Tells}
use Rattle.larch_prove_beginning.specs.ProveSettingsRefusalCommandRefusal.{CommandRefusal}
use Rattle.larch_prove_beginning.specs.ProveSettingsRefusalCommandRefusal.TheVariants.{Wrong, Memory}
use Rattle.larch_raw.specs.declared.declared.RawOpRef.{RawOpRef}
use Rattle.larch_raw.specs.declared.declared.RawWord.{RawWord}
use Rattle.larch_script_commands.specs.declared.command.CommandKind.{CommandKind}
use Rattle.larch_script_commands.specs.declared.command.CommandKind.TheVariants as command

-- ---- kinds

pub is_command : (k : CommandKind) → ((code : Code) → k ≡ command.Bad code → ⊥) → IsCommand k
is_command (command.Bad code) n = absurd (n code refl)
is_command k n = tt

pub has_turn : (k : CommandKind) → IsCommand k → ((b : Bool) → k ≡ command.Mark b → ⊥) → (k ≡ command.Qed → ⊥)
    → ((b : Bool) → k ≡ command.BoxChecking b → ⊥) → HasTurn k
has_turn (command.Bad code) h m q b = absurd h
has_turn (command.Mark proved) h m q b = absurd (m proved refl)
has_turn command.Qed h m q b = absurd (q refl)
has_turn (command.BoxChecking on) h m q b = absurd (b on refl)
has_turn k h m q b = tt

pub works_on_proof : (k : CommandKind) → HasTurn k
    → ((ns : List RawWord) (s : RawWord) → k ≡ command.Declare ns s → ⊥) → ((n : ℕ) → k ≡ command.Limit n → ⊥)
    → ((f g : RawOpRef) → k ≡ command.Height f g → ⊥) → ((w : Way) (f : RawOpRef) → k ≡ command.Status w f → ⊥)
    → WorksOnProof k
works_on_proof (command.Declare ns s) h a b c d = absurd (a ns s refl)
works_on_proof (command.Limit n) h a b c d = absurd (b n refl)
works_on_proof (command.Height f g) h a b c d = absurd (c f g refl)
works_on_proof (command.Status w f) h a b c d = absurd (d w f refl)
works_on_proof (command.BoxChecking on) h a b c d = absurd h
works_on_proof command.Qed h a b c d = absurd h
works_on_proof (command.Mark proved) h a b c d = absurd h
works_on_proof (command.Bad code) h a b c d = absurd h
works_on_proof k h a b c d = tt

-- ---- what is refused first

-- what is wrong with a line is told whatever waits
pub bad_refused : (k : CommandKind) (code : Code) (p : Proof) → k ≡ command.Bad code → step k p ≡ Err code
unfolding step
bad_refused k code p e = subst (λ x. step x p ≡ Err code) (sym e) refl

-- a block has so many commands at most
pub full_refused : (k : CommandKind) (p : Proof) → IsCommand k → MAX_COMMANDS ≤ p.commands
    → step k p ≡ Err refusal.Size
unfolding step
full_refused (command.Bad code) p h l = absurd h
full_refused k p h l =
    ap (λ b. unless refusal.Size b (by_kind k (record p { commands = p.commands + 1 })))
    (le-ltb p.commands MAX_COMMANDS l)

pub counted : (k : CommandKind) (p : Proof) → IsCommand k → p.commands < MAX_COMMANDS
    → step k p ≡ by_kind k (record p { commands = p.commands + 1 })
unfolding step
counted (command.Bad code) p h l = absurd h
counted k p h l =
    ap (λ b. unless refusal.Size b (by_kind k (record p { commands = p.commands + 1 })))
    (lt-ltb p.commands MAX_COMMANDS l)

-- ---- marks that wait, and the end

quiet_length : (ws : List Bool) → is_quiet ws ≡ (length ws == 0)
quiet_length [] = refl
quiet_length (w ∷ ws) = sym (ne_eqb (length (w ∷ ws)) 0 (λ e. omega (arith, e)))

-- none waits where the list is empty
pub quiet_so : (v : Vec Bool Global) (ws : List Bool) (b : Bool) → b ≡ (vec_len v == 0) → v.items ≡ ws
    → is_quiet ws ≡ b
quiet_so v ws b e h = quiet_length ws ∙ (ap (λ xs. length xs == 0) (sym h) ∙ (ap (λ n. n == 0) (sym v.ok.0) ∙ sym e))

pub waits_refused : (p : Proof) (a : Result Proof Code) → is_quiet p.waiting ≡ false
    → unless_marks_wait p a ≡ Err refusal.Mark
waits_refused p a e = ap (λ b. unless refusal.Mark b a) e

pub waits_none : (p : Proof) (a : Result Proof Code) → is_quiet p.waiting ≡ true → unless_marks_wait p a ≡ a
waits_none p a e = ap (λ b. unless refusal.Mark b a) e

pub done_refused : (p : Proof) (a : Result Proof Code) → p.is_proved ≡ true → unless_proved p a ≡ Err refusal.Done
done_refused p a e = ap (λ b. unless refusal.Done (not b) a) e

pub not_done : (p : Proof) (a : Result Proof Code) → p.is_proved ≡ false → unless_proved p a ≡ a
not_done p a e = ap (λ b. unless refusal.Done (not b) a) e

pub by_turn : (k : CommandKind) (p : Proof) → HasTurn k → by_kind k p ≡ in_turn k p
by_turn (command.BoxChecking on) p h = absurd h
by_turn command.Qed p h = absurd h
by_turn (command.Mark proved) p h = absurd h
by_turn (command.Bad code) p h = absurd h
by_turn k p h = refl

-- a command whose turn it is
pub turn_so : (k : CommandKind) (p : Proof) → HasTurn k → is_quiet p.waiting ≡ true → p.is_proved ≡ false
    → by_kind k p ≡ carried_out k p
turn_so k p h q e =
    by_turn k p h ∙ (waits_none p (unless_proved p (carried_out k p)) q ∙ not_done p (carried_out k p) e)

pub turn_waits : (k : CommandKind) (p : Proof) → HasTurn k → is_quiet p.waiting ≡ false
    → by_kind k p ≡ Err refusal.Mark
turn_waits k p h q = by_turn k p h ∙ waits_refused p (unless_proved p (carried_out k p)) q

pub turn_done : (k : CommandKind) (p : Proof) → HasTurn k → is_quiet p.waiting ≡ true → p.is_proved ≡ true
    → by_kind k p ≡ Err refusal.Done
turn_done k p h q e =
    by_turn k p h ∙ (waits_none p (unless_proved p (carried_out k p)) q ∙ done_refused p (carried_out k p) e)

-- no mark may wait where boxes are checked from now on
pub checking_set : (p : Proof) → is_quiet p.waiting ≡ true → p.is_proved ≡ false
    → by_kind (command.BoxChecking true) p ≡ Ok (check_boxes true p)
checking_set p q e = waits_none p _ q ∙ not_done p _ e

pub checking_waits : (p : Proof) → is_quiet p.waiting ≡ false
    → by_kind (command.BoxChecking true) p ≡ Err refusal.Mark
checking_waits p q = waits_refused p _ q

pub checking_done : (p : Proof) → is_quiet p.waiting ≡ true → p.is_proved ≡ true
    → by_kind (command.BoxChecking true) p ≡ Err refusal.Done
checking_done p q e = waits_none p _ q ∙ done_refused p _ e

-- one may where they aren't
pub unchecking_set : (p : Proof) → p.is_proved ≡ false
    → by_kind (command.BoxChecking false) p ≡ Ok (check_boxes false p)
unchecking_set p e = not_done p _ e

pub unchecking_done : (p : Proof) → p.is_proved ≡ true → by_kind (command.BoxChecking false) p ≡ Err refusal.Done
unchecking_done p e = done_refused p _ e

-- `qed` may stand behind the end
pub ended : (p : Proof) → is_quiet p.waiting ≡ true → p.is_proved ≡ true → by_kind command.Qed p ≡ Ok p
ended p q e = waits_none p _ q ∙ ap (λ b. unless refusal.Open b (Ok p)) e

pub not_ended : (p : Proof) → is_quiet p.waiting ≡ true → p.is_proved ≡ false
    → by_kind command.Qed p ≡ Err refusal.Open
not_ended p q e = waits_none p _ q ∙ ap (λ b. unless refusal.Open b (Ok p)) e

-- ---- what is told

pub told_as : (x y : Result Proof Code) (refused : CommandRefusal) → x ≡ y → Tells y refused → Tells x refused
told_as x y (Wrong code) e h = e ∙ h
told_as x y Memory e h = tt
