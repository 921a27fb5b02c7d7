use Rattle.larch_certificate_text.proofs.SymbolLaws.{leaf_read, constant_again, variable_again}
use Rattle.larch_certificate_text.proofs.laws.leaf_has_one_text.Goals as goal

pub returns : goal.returns
returns c = record { read = leaf_read; again = constant_again; variable = variable_again }
