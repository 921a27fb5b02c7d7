-- What one application gives.
use Rattle.std.specs.Prelude.{◌≡◌, Bool, true, false, Some}
use Rattle.larch_term.specs.Tree.{Tree}
use Rattle.larch_rewrite_match.specs.RewriteMeaningWork.{is_large}
use Rattle.larch_rewrite_match.specs.Exchanged.{exchange_equality}
use Rattle.larch_rewrite_match.specs.Rule.{left_of}
use Rattle.larch_rewrite_match.specs.declared.rule.RewriteRule.{RewriteRule}
use Rattle.larch_store.specs.declared.refusal.StoreRefusal.{StoreRefusal}
use Rattle.larch_store.specs.declared.refusal.StoreRefusal.TheVariants.{TooLarge as store_too_large}
use Rattle.larch_store.specs.declared.refusal.StoreRefusal.TheVariants.{Memory as store_memory}
use Rattle.larch_rewrite_step.specs.declared.refusal.ApplyRefusal.{ApplyRefusal}
use Rattle.larch_rewrite_step.specs.declared.refusal.ApplyRefusal.TheVariants.{TooLarge, Memory}

-- a rule makes a term; it may be refused as too large where it is so, and out of memory always
abbrev pub MayRefuse : Tree → ApplyRefusal → Type 0
MayRefuse u TooLarge = is_large u ≡ true
MayRefuse u Memory = Unit {0}

-- what is refused for the reason for which a term isn't taken
abbrev pub from_store : StoreRefusal → ApplyRefusal
from_store store_too_large = TooLarge
from_store store_memory = Memory

-- the left side of a rule as it is tried: as it stands, or exchanged
abbrev pub IsTried : RewriteRule → Bool → Tree → Type 0
IsTried r false x = x ≡ left_of r
IsTried r true x = exchange_equality (left_of r) ≡ Some x
