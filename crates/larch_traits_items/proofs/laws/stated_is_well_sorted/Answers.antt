use Rattle.larch_traits_items.proofs.Theories.{item_well_sorted, item_own, item_sorts}
use Rattle.larch_traits_items.proofs.laws.stated_is_well_sorted.Goals as goal

pub returns-clause-well_sorted : goal.returns-clause-well_sorted
returns-clause-well_sorted c = item_well_sorted

pub returns-clause-own : goal.returns-clause-own
returns-clause-own c = item_own

pub returns-clause-sorts : goal.returns-clause-sorts
returns-clause-sorts c = item_sorts
