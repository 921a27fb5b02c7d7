use Rattle.std.proofs.Common.{refl}
use Rattle.larch_derive_join.proofs.examples.clause_is_named.Goals as goal

pub returns : goal.returns
returns c = refl
