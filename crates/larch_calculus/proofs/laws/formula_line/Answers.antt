use Rattle.larch_calculus.proofs.Formulas.{formula_follows, equation_follows}
use Rattle.larch_calculus.proofs.laws.formula_line.Goals as goal

pub returns : goal.returns
returns c t a b = (formula_follows a b, equation_follows a b)
