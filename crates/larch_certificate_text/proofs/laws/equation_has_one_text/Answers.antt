use Rattle.larch_certificate_text.proofs.EquationLaws.{equation_again, equation_read}
use Rattle.larch_certificate_text.proofs.laws.equation_has_one_text.Goals as goal

pub returns : goal.returns
returns c = record { again = equation_again; read = equation_read }
