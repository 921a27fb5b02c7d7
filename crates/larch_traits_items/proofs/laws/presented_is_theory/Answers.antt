use Rattle.larch_traits_items.proofs.Theories.{own, well_sorted, theory}
use Rattle.larch_traits_items.proofs.laws.presented_is_theory.Goals as goal

pub returns-clause-own : goal.returns-clause-own
returns-clause-own c = own

pub returns-clause-well_sorted : goal.returns-clause-well_sorted
returns-clause-well_sorted c = well_sorted

pub returns-clause-theory : goal.returns-clause-theory
returns-clause-theory c = theory
