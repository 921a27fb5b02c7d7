use Rattle.std.proofs.Common.{sym}
use Rattle.larch_rewrite.proofs.PlainRules.{name_Decides}
use Rattle.larch_rewrite.proofs.laws.names_are_told.Goals as goal

pub returns : goal.returns
returns c name r = (λ t. sym ((name_Decides name r).0 t), λ e. (name_Decides name r).1 (sym e))
