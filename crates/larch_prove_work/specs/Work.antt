-- What commands work on, and what it is of a proof.
use Rattle.std.specs.Prelude.{◌≡◌, false, Result, Ok}
use Rattle.larch_base.specs.declared.code.Code.{Code}
use Rattle.larch_base.specs.declared.code.Code.TheVariants as code
use Rattle.larch_prove_settling.specs.ProveDraftDraft.{IsProofOf}
use Rattle.larch_prove_settling.specs.ProveInvariantHolding.{theory_for}
use Rattle.larch_prove_settings.specs.ProveMeaningInWords.{AreVariablesInWords}
use Rattle.larch_prove_settings.specs.ProveMeaningLevels.{Proof}
use Rattle.larch_prove_settings.specs.ProveMeaningNamed.{IsNamedProof}
use Rattle.larch_prove_settings.specs.ProveMeaningWellSorted.{IsWellSortedProof}
use Rattle.larch_prove_settings.specs.Settings.{AreSettingsOf}
use Rattle.larch_prove_settings.specs.declared.refusal.CommandRefusal.{CommandRefusal}
use Rattle.larch_prove_settings.specs.declared.refusal.CommandRefusal.TheVariants as refused
use Rattle.larch_prove_work.specs.declared.work.Work.{Work}
use Rattle.larch_prove_settling.specs.RewriteRefusalRewriteRefusal.{RewriteRefusal}
use Rattle.larch_prove_settling.specs.RewriteRefusalRewriteRefusal.TheVariants as event
use Rattle.larch_term.specs.declared.statement.Statement.{Statement}
use Rattle.larch_term.specs.declared.statement.Theory.{Theory}

-- it is of a proof over this theory with the lemmas: its settings are the proof's, and its draft is one of it
pub record IsWorkOf (t : Theory) (s : Statement) (w : Work) (p : Proof) : Type 0 where
  pub whole : theory_for p ≡ t
  pub settings : AreSettingsOf w.settings p
  pub draft : IsProofOf t s w.store w.draft p

-- what holds of each proof that a replay reaches: it is well sorted, its scope is in words, and names of facts differ
pub record IsReached (p : Proof) : Type 0 where
  pub sorted : IsWellSortedProof p
  pub scope : AreVariablesInWords p.scope
  pub named : IsNamedProof p

-- a command can work on it: it is of a proof that is reached and isn't done
pub record MayWork (t : Theory) (s : Statement) (w : Work) (p : Proof) : Type 0 where
  pub work : IsWorkOf t s w p
  pub reached : IsReached p
  pub undone : p.is_proved ≡ false

abbrev pub IsSomeWork : Theory → Statement → Work → Type 0
IsSomeWork t s w = (p : Proof) × MayWork t s w p

-- a command leads from a proof to another, and this is of it; it counts no command
abbrev pub Makes : Theory → Statement → Work → Proof → Result Proof Code → Type 0
Makes t s w p answer = (q : Proof) × ((answer ≡ Ok q) × (IsWorkOf t s w q × (q.commands ≡ p.commands)))

-- the refusal of a command, of which the work is refused
abbrev pub command_refusal : RewriteRefusal → CommandRefusal
command_refusal event.Limit = refused.Wrong code.Limit
command_refusal event.TooLarge = refused.Wrong code.Size
command_refusal event.Memory = refused.Memory
