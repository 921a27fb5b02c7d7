use Rattle.std.proofs.Common.{refl}
use Rattle.larch_trim_meaning.proofs.examples.box_of_hypothesis_is_kept.Goals as goal

pub returns : goal.returns
returns c = refl
