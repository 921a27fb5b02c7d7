-- What a store refuses.
use Rattle.std.specs.Prelude.{ℕ, ◌<◌}
use Rattle.larch_store.specs.Stored.{most_nodes}
use Rattle.larch_store.specs.declared.refusal.StoreRefusal.{StoreRefusal}
use Rattle.larch_store.specs.declared.refusal.StoreRefusal.TheVariants.{TooLarge, Memory}

-- a term with so many nodes may be refused so: as too large where it has too many, and out of memory always
abbrev pub MayRefuse : ℕ → StoreRefusal → Type 0
MayRefuse n TooLarge = most_nodes < n
MayRefuse n Memory = Unit {0}
