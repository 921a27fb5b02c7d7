use Rattle.larch_pairs_critical.proofs.Replacements.{all_differ, first_variables, second_variables}
use Rattle.larch_pairs_critical.proofs.laws.substitutions_bind_variables.Goals as goal

pub returns : goal.returns
returns c = record { first = first_variables; second = second_variables; different = all_differ }
