-- When a normal form is refused.
use Rattle.std.specs.Prelude.{◌≡◌, ◌⊎◌, ◌<◌, ◌≤◌, ◌-◌, ℕ}
use Rattle.larch_term.specs.Tree.{Tree, nodes}
use Rattle.larch_rewrite_step.specs.declared.refusal.ApplyRefusal.{ApplyRefusal}
use Rattle.larch_rewrite_step.specs.declared.refusal.ApplyRefusal.TheVariants.{TooLarge as application_too_large}
use Rattle.larch_rewrite_step.specs.declared.refusal.ApplyRefusal.TheVariants.{Memory as application_memory}
use Rattle.larch_rewrite_meaning.specs.Work.{Work, Made, OverLimit, OverSize}
use Rattle.larch_store.specs.declared.refusal.StoreRefusal.{StoreRefusal}
use Rattle.larch_store.specs.declared.refusal.StoreRefusal.TheVariants.{TooLarge as store_too_large}
use Rattle.larch_store.specs.declared.refusal.StoreRefusal.TheVariants.{Memory as store_memory}
use Rattle.larch_store.specs.Stored.{most_nodes}
use Rattle.larch_rewrite.specs.declared.refusal.RewriteRefusal.{RewriteRefusal}
use Rattle.larch_rewrite.specs.declared.refusal.RewriteRefusal.TheVariants.{Limit, TooLarge, Memory}

-- work under a budget makes a term at a cost
abbrev pub IsMade : ℕ → ℕ → Tree → Work Tree → Type 0
IsMade budget k u work = (k ≤ budget) × (work ≡ Made u (budget - k))

-- a refusal tells the event in which work ends; out of memory it tells nothing
abbrev pub TellsEvent : Work Tree → RewriteRefusal → Type 0
TellsEvent work Limit = work ≡ OverLimit
TellsEvent work TooLarge = work ≡ OverSize
TellsEvent work Memory = Unit {0}

-- what is refused for the reason for which a rule isn't applied, or a term isn't taken
abbrev pub from_application : ApplyRefusal → RewriteRefusal
from_application application_too_large = TooLarge
from_application application_memory = Memory

abbrev pub from_store : StoreRefusal → RewriteRefusal
from_store store_too_large = TooLarge
from_store store_memory = Memory

-- a rule may be refused so: as too large where one of its sides is, and out of memory always
abbrev pub MayRefuse : Tree → Tree → StoreRefusal → Type 0
MayRefuse l r store_too_large = (most_nodes < nodes l) ⊎ (most_nodes < nodes r)
MayRefuse l r store_memory = Unit {0}
