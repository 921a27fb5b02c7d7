use Rattle.larch_flat_meaning.proofs.DeepEnough.{deep_enough}
use Rattle.larch_flat_meaning.proofs.laws.files_are_deep_enough.Goals as goal

pub returns : goal.returns
returns c = deep_enough
