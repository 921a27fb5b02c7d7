-- Equations that are added to the facts of a draft's current level.
use Rattle.std.specs.Prelude.{◌≡◌, ℕ, false, List, Result, Ok}
use Rattle.larch_base.specs.declared.code.Code.{Code}
use Rattle.larch_prove_work.specs.ProveDraftDraft.{IsAlike, Stands}
use Rattle.larch_prove_work.specs.ProveDraftDraftDraft.{Draft}
use Rattle.larch_prove_work.specs.ProveInvariantBook.{Kept}
use Rattle.larch_prove_meaning.specs.Levels.{Next, Proof, settle_goal}
use Rattle.larch_prove_meaning.specs.Steps.{all_derived}
use Rattle.larch_prove_work.specs.Work.{IsWorkOf}
use Rattle.larch_prove_work.specs.declared.work.Work.{Work}
use Rattle.larch_rewrite_meaning.specs.Sides.{Sides}
use Rattle.larch_store.specs.Numbered.{Numbered}
use Rattle.larch_term.specs.declared.statement.Statement.{Statement}
use Rattle.larch_term.specs.declared.statement.Theory.{Theory}
use Rattle.larch_base_meaning.specs.Steps.{after}

-- equations are added in turn, until the goal is proved, and what that leads to
abbrev pub all_settled : List Sides → Next
all_settled es p = after (all_derived es p) settle_goal

-- a draft of a proof, upon these levels
abbrev pub StandsFor : Theory → Statement → List Numbered → Draft → Proof → List Kept → Type 0
StandsFor t s store d p ks = (k : Kept) × Stands t s store d p k ks

-- a step leads from a proof to one of which a draft is, and which isn't done
abbrev pub Reaches : Theory → Statement → List Numbered → Draft → Proof → Result Proof Code → Type 0
Reaches t s store d p answer =
    (q : Proof) × ((answer ≡ Ok q) × (IsAlike p q × ((ks : List Kept) × StandsFor t s store d q ks)))

-- a step goes on from such a proof with further equations
abbrev pub Continues : Theory → Statement → List Numbered → Draft → Proof → Result Proof Code → List Sides → Type 0
Continues t s store d p answer es =
    (q : Proof) × ((answer ≡ all_derived es q) × (IsAlike p q × ((ks : List Kept) × StandsFor t s store d q ks)))

-- a command can go on with it: it is of a proof that isn't done
pub record IsUndone (t : Theory) (s : Statement) (w : Work) (p : Proof) : Type 0 where
  pub work : IsWorkOf t s w p
  pub undone : p.is_proved ≡ false

abbrev pub IsSomeUndone : Theory → Statement → Work → Type 0
IsSomeUndone t s w = (p : Proof) × IsUndone t s w p
