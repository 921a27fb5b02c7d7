-- What a state is, by what has become of its block.
use Rattle.std.specs.Prelude.{◌≡◌, Bool, true, false, List, IfOk, Result, Ok, Err}
use Rattle.std.proofs.Common.{ap, subst, sym}
use Rattle.larch_base.specs.declared.code.Code.{Code}
use Rattle.larch_certificate.specs.declared.line.Line.{Line}
use Rattle.larch_derive.specs.Builder.{lines_in}
use Rattle.larch_derive.specs.Finished.{IsFinished}
use Rattle.larch_prove.specs.State.{IsGoingFor, IsNow, told_outcome}
use Rattle.larch_prove.specs.declared.going.Going.{Going}
use Rattle.larch_prove.specs.declared.outcome.Outcome.{Outcome}
use Rattle.larch_prove.specs.declared.outcome.Outcome.TheVariants.{Refused}
use Rattle.larch_prove.specs.declared.outcome.Place.{Place}
use Rattle.larch_prove.specs.declared.state.Stage.{Stage}
use Rattle.larch_prove.specs.declared.state.Stage.TheVariants as stage
use Rattle.larch_prove_resuming.specs.ProveDraftDraft.{IsProofBy}
use Rattle.larch_prove_resuming.specs.ProveDraftDraftDraft.{Draft}
use Rattle.larch_prove_resuming.specs.ProveInvariantHolding.{theory_for}
use Rattle.larch_prove_meaning.specs.Levels.{Proof}
use Rattle.larch_prove_meaning.specs.Replays as defined
use Rattle.larch_prove_meaning.specs.Replays.{Refusal, outcome_of}
use Rattle.larch_store.specs.Numbered.{Numbered}
use Rattle.larch_term.specs.declared.statement.Statement.{Statement}
use Rattle.larch_term.specs.declared.statement.Theory.{Theory}

-- ---- certificates

done_by : (b : Bool) (t : Theory) (s : Statement) (store : List Numbered) (d : Draft) (p : Proof) → b ≡ true
    → IsProofBy b t s store d p → IsFinished t s (lines_in d.builder)
done_by true t s store d p e w = w.finished
done_by false t s store d p e w = absurd (cc)

going_finished : (s : Statement) (going : Going) (p : Proof) → IsGoingFor s going p → p.is_proved ≡ true
    → IsFinished (theory_for p) s (lines_in going.work.draft.builder)
going_finished s going p h e =
    let lines : List Line = lines_in going.work.draft.builder in
    subst (λ (t : Theory). IsFinished t s lines) (sym h.works.work.whole)
    (subst (λ (u : Statement). IsFinished going.claim.value.theory u lines) h.statement
    (done_by p.is_proved going.claim.value.theory going.claim.value.statement going.work.store going.work.draft p e
    h.works.work.draft))

-- the lines of what is proved are a certificate
pub lines_finished : (s : Statement) (p : Proof) (st : Stage) (going : Going) (lines : List Line)
    → st ≡ stage.Going going → lines ≡ lines_in going.work.draft.builder → IsNow s st (Ok p) → p.is_proved ≡ true
    → IsFinished (theory_for p) s lines
lines_finished s p st going lines is e h proved =
    subst (IsFinished (theory_for p) s) (sym e)
    (going_finished s going p (subst (λ (x : Stage). IsNow s x (Ok p)) is h) proved)

pub certificate_told : {E : Type 0} (result : Result (List Line) E) (st : Stage) (going : Going)
    → st ≡ stage.Going going → IfOk result (λ lines. lines ≡ lines_in going.work.draft.builder)
    → IfOk result (λ lines. (s : Statement) (p : Proof) → IsNow s st (Ok p) → p.is_proved ≡ true
    → IsFinished (theory_for p) s lines)
certificate_told (Ok lines) st going is e = λ s p h proved. lines_finished s p st going lines is e h proved
certificate_told (Err x) st going is e = tt

-- what is refused isn't of a proof
pub not_refused : (s : Statement) (p : Proof) (st : Stage) (at : Place) (code : Code) → st ≡ stage.Refused at code
    → IsNow s st (Ok p) → ⊥
not_refused s p st at code is h = subst (λ (x : Stage). IsNow s x (Ok p)) is h

-- ---- copies

going_copied : (s : Statement) (answer : Result Proof Refusal) (g j : Going)
    → ((t : Statement) (p : Proof) → IsGoingFor t g p → IsGoingFor t j p) → IsNow s (stage.Going g) answer
    → IsNow s (stage.Going j) answer
going_copied s (Ok p) g j f h = f s p h
going_copied s (Err refused) g j f h = absurd h

-- a block that goes on, and its copy
pub going_again : (s : Statement) (answer : Result Proof Refusal) (st : Stage) (g j : Going) → st ≡ stage.Going g
    → ((t : Statement) (p : Proof) → IsGoingFor t g p → IsGoingFor t j p) → IsNow s st answer
    → IsNow s (stage.Going j) answer
going_again s answer st g j is f h =
    going_copied s answer g j f (subst (λ (x : Stage). IsNow s x answer) is h)

-- ---- outcomes

going_told : (s : Statement) (answer : Result Proof Refusal) (g : Going) (o : Outcome)
    → ((t : Statement) (p : Proof) → IsGoingFor t g p → told_outcome o ≡ outcome_of (Ok p))
    → IsNow s (stage.Going g) answer → told_outcome o ≡ outcome_of answer
going_told s (Ok p) g o f h = f s p h
going_told s (Err refused) g o f h = absurd h

-- the outcome of a block that goes on
pub going_outcome : (s : Statement) (answer : Result Proof Refusal) (st : Stage) (g : Going) (o : Outcome)
    → st ≡ stage.Going g
    → ((t : Statement) (p : Proof) → IsGoingFor t g p → told_outcome o ≡ outcome_of (Ok p))
    → IsNow s st answer → told_outcome o ≡ outcome_of answer
going_outcome s answer st g o is f h = going_told s answer g o f (subst (λ (x : Stage). IsNow s x answer) is h)

pub outcome_told : {E : Type 0} (result : Result Outcome E) (st : Stage) (g : Going) → st ≡ stage.Going g
    → IfOk result (λ o. (t : Statement) (p : Proof) → IsGoingFor t g p → told_outcome o ≡ outcome_of (Ok p))
    → IfOk result (λ o. (s : Statement) (answer : Result Proof Refusal) → IsNow s st answer
    → told_outcome o ≡ outcome_of answer)
outcome_told (Ok o) st g is f = λ s answer h. going_outcome s answer st g o is f h
outcome_told (Err x) st g is f = tt

refused_told : (s : Statement) (answer : Result Proof Refusal) (at : Place) (code : Code)
    → IsNow s (stage.Refused at code) answer → told_outcome (Refused at code) ≡ outcome_of answer
refused_told s (Ok p) at code h = absurd h
refused_told s (Err refused) at code h = ap defined.Refused (sym h)

-- that of one that is refused
pub refused_outcome : (s : Statement) (answer : Result Proof Refusal) (st : Stage) (at : Place) (code : Code)
    → st ≡ stage.Refused at code → IsNow s st answer → told_outcome (Refused at code) ≡ outcome_of answer
refused_outcome s answer st at code is h =
    refused_told s answer at code (subst (λ (x : Stage). IsNow s x answer) is h)
