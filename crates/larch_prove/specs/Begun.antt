-- What a duty is opened to.
use Rattle.std.specs.Prelude.{◌≡◌, ◌++◌, ℕ, List, Result, Ok, Err}
use Rattle.larch_base.specs.declared.code.Code.{Code}
use Rattle.larch_calculus.specs.Theories.{with_statements}
use Rattle.larch_order.specs.declared.precedence.Ranked.{Ranked}
use Rattle.larch_prove.specs.State.{place_of}
use Rattle.larch_prove.specs.declared.duty.ProofDuty.{ProofDuty}
use Rattle.larch_prove.specs.declared.going.Going.{Going}
use Rattle.larch_prove.specs.declared.state.Stage.{Stage}
use Rattle.larch_prove.specs.declared.state.Stage.TheVariants as stage
use Rattle.larch_prove_beginning.specs.declared.duty.FirstDraft.{FirstDraft}
use Rattle.larch_prove_resuming.specs.ProveDraftDraft.{IsProofOf}
use Rattle.larch_prove_meaning.specs.Levels.{Proof}
use Rattle.larch_prove_meaning.specs.Replays.{Refusal}
use Rattle.larch_prove_beginning.specs.ProveOpeningStating.{duties_of, what_state}
use Rattle.larch_prove_beginning.specs.ProveSettingsSettingsSettings.{Settings}
use Rattle.larch_prove_resuming.specs.ProveWorkWork.{IsWorkOf}
use Rattle.larch_prove_resuming.specs.ProveWorkWorkClaim.{Claim}
use Rattle.larch_prove_resuming.specs.ProveWorkWorkWork.{Work}
use Rattle.larch_sorts_meaning.specs.Scope.{Variables}
use Rattle.larch_store.specs.Numbered.{Numbered}
use Rattle.larch_term.specs.Operator.{PlainOperator}
use Rattle.larch_term.specs.declared.statement.Theory.{Theory}

-- the theory of a duty, with what the lemmas state behind its own statements
abbrev pub whole_of : ProofDuty → Theory
whole_of d = with_statements d.theory.now (what_state (duties_of d.lemmas.now))

-- the claim is that of a duty
pub record IsClaimOf (d : ProofDuty) (claim : Claim) : Type 0 where
  pub theory : claim.theory ≡ whole_of d
  pub statement : claim.statement ≡ d.statement.now

-- a duty is opened to a proof with a limit, and what was drafted is of it; no command was counted
pub record IsFirstFor (d : ProofDuty) (claim : Claim) (store : List Numbered) (first : FirstDraft) (ranks : List Ranked)
    (limit : ℕ) (answer : Result Proof Code) : Type 0 where
  pub made : Proof
  pub is : answer ≡ Ok made
  pub draft : IsProofOf claim.theory d.statement.now store first.draft made
  pub constants : made.constants ≡ first.constants
  pub scope : made.scope ≡ first.scope
  pub ranks_are : made.ranks ≡ ranks
  pub theory : made.theory ≡ d.theory.now
  pub lemmas : made.lemmas ≡ duties_of d.lemmas.now
  pub limit_is : made.limit ≡ limit
  pub commands : made.commands ≡ 0

-- the settings are others with further constants, whatever their scope and precedence
pub record HaveConstants (before : Settings) (made : List PlainOperator) (behind : Settings) : Type 0 where
  pub operators : behind.signature.value ≡ before.signature.value ++ made
  pub sorts : behind.sorts.value ≡ before.sorts.value
  pub constants : behind.constants.value ≡ before.constants.value ++ made
  pub limit : behind.limit ≡ before.limit

-- so they are, with another scope and another precedence
pub record AreOpenedSettings (before : Settings) (made : List PlainOperator) (scope : Variables) (ranks : List Ranked)
    (behind : Settings) : Type 0 where
  pub named : HaveConstants before made behind
  pub scope_is : behind.scope.value ≡ scope
  pub ranks_are : behind.precedence.value ≡ ranks

-- a duty is opened to a proof, and what is worked on is of it; no command was counted
pub record IsWorkFor (d : ProofDuty) (answer : Result Proof Code) (work : Work) : Type 0 where
  pub made : Proof
  pub is : answer ≡ Ok made
  pub work_is : IsWorkOf (whole_of d) d.statement.now work made
  pub commands : made.commands ≡ 0

-- a duty is opened to a proof, and what goes on is of it; no command was counted
pub record IsBegunFor (d : ProofDuty) (answer : Result Proof Code) (going : Going) : Type 0 where
  pub made : Proof
  pub is : answer ≡ Ok made
  pub claim : IsClaimOf d going.claim.value
  pub work : IsWorkOf (whole_of d) d.statement.now going.work made
  pub commands : (going.commands ≡ 0) × (made.commands ≡ 0)

-- and so it is, or the opening is refused
abbrev pub IsOpened : ProofDuty → Result Proof Refusal → Stage → Type 0
IsOpened d (Ok p) (stage.Going going) = IsBegunFor d (Ok p) going
IsOpened d (Ok p) (stage.Refused at code) = ⊥
IsOpened d (Err refused) (stage.Going going) = ⊥
IsOpened d (Err refused) (stage.Refused at code) = refused ≡ record { place = place_of at; code = code }
