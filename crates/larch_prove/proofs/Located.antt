-- Where a step is refused.
use Rattle.std.specs.Prelude.{◌≡◌, ◌+◌, ℕ, Ok, Err, Result, refl}
use Rattle.std.proofs.Common.{ap, subst, sym, ◌∙◌}
use Rattle.larch_base.specs.declared.code.Code.{Code}
use Rattle.larch_prove.specs.State.{IsGoingFor, IsNow, IsStateOf, StepsTo}
use Rattle.larch_prove.specs.declared.going.Going.{Going}
use Rattle.larch_prove.specs.declared.outcome.Place.TheVariants as place
use Rattle.larch_prove.specs.declared.state.ProofState.{ProofState}
use Rattle.larch_prove.specs.declared.state.Stage.{Stage}
use Rattle.larch_prove.specs.declared.state.Stage.TheVariants as stage
use Rattle.larch_prove_meaning.specs.Levels.{Proof}
use Rattle.larch_prove_meaning.specs.Replays.{AtCommand, Refusal, RefusalPlace, locate, told_number}
use Rattle.larch_term.specs.declared.statement.Statement.{Statement}

-- a step that isn't refused goes on
pub goes_on : (s : Statement) (going : Going) (n : RefusalPlace) (answer : Result Proof Code) → StepsTo s going answer
    → IsNow s (stage.Going going) (locate n answer)
goes_on s going n answer w = subst (λ a. IsNow s (stage.Going going) (locate n a)) (sym w.1.0) w.1.1

refused_at : Code → RefusalPlace → Refusal
refused_at code n = record { place = n; code = code }

-- one that is refused is refused at the number of its command
pub refused_here : (s : Statement) (m : ℕ) (code : Code) (going : Going) (p : Proof) (answer : Result Proof Code)
    → m ≡ told_number (going.commands + 1) → going.commands ≡ p.commands → answer ≡ Err code
    → IsNow s (stage.Refused (place.Command m) code) (locate (AtCommand (told_number (p.commands + 1))) answer)
unfolding refused_at
refused_here s m code going p answer here commands e =
    subst (λ a. IsNow s (stage.Refused (place.Command m) code) (locate (AtCommand (told_number (p.commands + 1))) a))
    (sym e)
    (ap (λ n. refused_at code (AtCommand n)) (ap (λ i. told_number (i + 1)) (sym commands) ∙ sym here))

-- what goes on behind a state of the code
pub going_now : (s : Statement) (x : Stage) (going : Going) (p : Proof) → x ≡ stage.Going going → IsNow s x (Ok p)
    → IsGoingFor s going p
going_now s x going p e h = subst (λ y. IsNow s y (Ok p)) e h

by_stage : (s : Statement) (x : Stage) (p : Proof) → IsNow s x (Ok p) → ((going : Going) → x ≡ stage.Going going → ⊥)
    → ⊥
by_stage s (stage.Going going) p h n = n going refl
by_stage s (stage.Refused at code) p h n = h

-- one that isn't refused does
pub never_refused : (s : Statement) (state : ProofState) (p : Proof) → IsStateOf s state (Ok p)
    → ((going : Going) → state.stage ≡ stage.Going going → ⊥) → ⊥
never_refused s state p h n = by_stage s state.stage p h n

abbrev with_stage : Stage → ProofState
with_stage x = record { stage = x }

-- where nothing has changed, it is the same state
pub same_state : (state : ProofState) (going made : Going) → state.stage ≡ stage.Going going → made ≡ going
    → with_stage (stage.Going made) ≡ state
same_state state going made e h =
    ap (λ (x : Going). with_stage (stage.Going x)) h ∙ ap (λ (x : Stage). with_stage x) (sym e)
