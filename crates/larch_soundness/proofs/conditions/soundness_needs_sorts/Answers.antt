use Rattle.std.proofs.Common.{refl}
use Rattle.larch_term.specs.OperatorKey.{same_operator}
use Rattle.larch_soundness.specs.Counterexamples.{no_tables, ill_sorted}
use Rattle.larch_models_meaning.specs.Examples.{two_values}
use Rattle.larch_soundness.proofs.Computing.{model_so}
use Rattle.larch_soundness.proofs.IllSorted.{ill_sorted_derives}
use Rattle.larch_soundness.proofs.Standards.{standard_interprets}
use Rattle.larch_soundness.proofs.conditions.soundness_needs_sorts.Goals as goal

pub returns : goal.returns
unfolding same_operator
returns c =
    record {
      derivable = ill_sorted_derives;
      model = model_so (standard_interprets two_values no_tables ill_sorted.operators) refl;
      fails = refl;
    }
