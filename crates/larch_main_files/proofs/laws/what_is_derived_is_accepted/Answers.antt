use Rattle.larch_main_files.proofs.Derived.{derived_accepted}
use Rattle.larch_main_files.proofs.laws.what_is_derived_is_accepted.Goals as goal

pub returns : goal.returns
returns c = derived_accepted
