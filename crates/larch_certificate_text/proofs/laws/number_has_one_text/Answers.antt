use Rattle.larch_certificate_text.proofs.Numbers.{number_read, number_again}
use Rattle.larch_certificate_text.proofs.laws.number_has_one_text.Goals as goal

pub returns : goal.returns
returns c = record { read = number_read; again = number_again }
