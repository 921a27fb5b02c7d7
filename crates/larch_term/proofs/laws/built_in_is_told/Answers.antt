use Rattle.larch_term.proofs.BuiltIns.{is_built_in_Decides}
use Rattle.larch_term.proofs.laws.built_in_is_told.Goals as goal

pub returns : goal.returns
returns c = is_built_in_Decides
