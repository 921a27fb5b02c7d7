use Rattle.larch_calculus.proofs.Sorted.{side_over, sides_over}
use Rattle.larch_calculus.proofs.laws.arguments.Goals as goal

pub returns : goal.returns
returns c = record { one = side_over; two = sides_over }
