use Rattle.std.proofs.Common.{◌≡◌, true, false, sym}
use Rattle.larch_term.specs.OperatorKey.{same_operator}
use Rattle.larch_soundness.proofs.Computing.{model_if}
use Rattle.larch_soundness.proofs.Counterexamples.{numbers_well_sorted}
use Rattle.larch_soundness.proofs.examples.one_wrong_entry.Goals as goal

pub returns : goal.returns
unfolding same_operator
returns c k = let wrong : true ≡ false = sym (model_if numbers_well_sorted k) in cc
