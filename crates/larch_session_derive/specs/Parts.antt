-- Duties that were replayed, as parts of a certificate.
use Rattle.std.specs.Prelude.{◌≡◌, ℕ, ◌&&◌, Bool, true, false, List, [], ◌∷◌, ◌++◌, length, map, Option, Ok}
use Rattle.larch_derive.specs.Finished.{IsFinished}
use Rattle.larch_derive_join.specs.Promise.{AreProved, AreWritable}
use Rattle.larch_derive_join.specs.declared.part.Part.{Part}
use Rattle.larch_session_replay.specs.ProveState.{IsProvedState, IsStateOf, told_outcome}
use Rattle.larch_session_replay.specs.ProveInvariantHolding.{theory_for}
use Rattle.larch_prove_meaning.specs.Levels.{EarlierDuty, Proof}
use Rattle.larch_prove_meaning.specs.Reports.{is_proved, lemmas_for, may_serve}
use Rattle.larch_prove_meaning.specs.Scripts.{ClaimedDuty}
use Rattle.larch_script_commands.specs.declared.script.Script.{Script}
use Rattle.larch_session_derive_meaning.specs.Ordered.{AreInOrder}
use Rattle.larch_session_derive_meaning.specs.SessionLawClaims.{AreClaims}
use Rattle.larch_session_replay.specs.Replayed.{AreReplays, answer_of}
use Rattle.larch_session_replay.specs.declared.replayed.Replayed.{Replayed}
use Rattle.larch_term.specs.declared.statement.Statement.{Statement}

-- these are duties of one trait, replayed one behind the other by some script
pub record AreReplayed (rs : List Replayed) : Type 0 where
  pub limit : ℕ
  pub script : Script
  pub claims : AreClaims (map (λ r. (answer_of r).duty) rs)
  pub order : AreInOrder (map (λ r. (answer_of r).duty) rs)
  pub replays : AreReplays limit script [] rs

-- whether a duty is proved and may serve those of a clause, or of none
abbrev pub may_be_lemma : Option ℕ → Replayed → Bool
may_be_lemma clause r = is_proved (told_outcome r.outcome) && may_serve r.claim.clause clause

-- if a duty is proved, its state has a certificate
abbrev pub HasCertificate : Replayed → Type 0
HasCertificate r = is_proved (told_outcome r.outcome) ≡ true → IsProvedState r.state

-- this is the part of a duty that is proved: how many statements its theory has, and the certificate of its state
pub record IsPartOf (r : Replayed) (p : Part) : Type 0 where
  pub statements : p.statements ≡ length r.claim.theory.statements
  pub finished : (s : Statement) (q : Proof) → IsStateOf s r.state (Ok q) → q.is_proved ≡ true
      → IsFinished (theory_for q) s p.certificate

-- behind other parts stands that of a duty
abbrev pub IsWithPart : Replayed → List Part → List Part → Type 0
IsWithPart r before after = (p : Part) × (IsPartOf r p × (after ≡ before ++ p ∷ []))

-- the same if it may be a lemma; else nothing is put there
abbrev pub IsWithLemma : Option ℕ → Replayed → List Part → List Part → Type 0
IsWithLemma clause r before after =
    (may_be_lemma clause r ≡ true → IsWithPart r before after) × (may_be_lemma clause r ≡ false → after ≡ before)

-- what the lemmas of a duty state, behind these earlier ones
abbrev pub lemma_statements : ClaimedDuty → List Replayed → List Statement
lemma_statements d rs = map (λ (l : EarlierDuty). l.statement) (lemmas_for d (map answer_of rs))

-- these are parts of a duty's lemmas among earlier ones, each proved over the duty's theory by those in front
pub record AreLemmaParts (d : ClaimedDuty) (rs : List Replayed) (ps : List Part) : Type 0 where
  pub proved : AreProved d.theory [] ps (lemma_statements d rs)
  pub writable : AreWritable ps
