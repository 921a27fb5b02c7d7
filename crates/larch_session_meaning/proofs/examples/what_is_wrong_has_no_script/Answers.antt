use Rattle.std.proofs.Common.{refl}
use Rattle.larch_session_meaning.specs.Examples.{reporting}
use Rattle.larch_session_meaning.proofs.examples.what_is_wrong_has_no_script.Goals as goal

pub returns : goal.returns
unfolding reporting
returns c = refl
