use Rattle.larch_traits_items.proofs.Theories.{operators_own, sorts_exist}
use Rattle.larch_traits_items.proofs.laws.presented_names_its_own.Goals as goal

pub returns-clause-operators : goal.returns-clause-operators
returns-clause-operators c = operators_own

pub returns-clause-sorts : goal.returns-clause-sorts
returns-clause-sorts c = sorts_exist
