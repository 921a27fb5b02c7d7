use Rattle.larch_derive.proofs.Accepting.{equation_ends, pushed_ends, pushed_last}
use Rattle.larch_derive.proofs.laws.ending.Goals as goal

pub returns : goal.returns
returns c = record { equation = equation_ends; pushed = pushed_ends; last = pushed_last }
