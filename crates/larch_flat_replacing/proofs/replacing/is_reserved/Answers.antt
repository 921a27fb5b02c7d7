use Rattle.larch_term.proofs.BuiltIns.{built_in_told}
use Rattle.larch_flat_replacing.proofs.replacing.is_reserved.Goals as goal

pub returns : goal.returns
returns c = built_in_told c.args.operator.now c.is_built_in.result c.is_built_in.ensures
