use Rattle.larch_derive_lines.proofs.Instances.{known_substituted}
use Rattle.larch_derive_lines.proofs.laws.substituting.Goals as goal

pub returns : goal.returns
returns c = known_substituted
