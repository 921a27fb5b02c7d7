use Rattle.larch_certificate_text.proofs.LineLaws.{line_again, line_back, line_lacks}
use Rattle.larch_certificate_text.proofs.laws.line_has_one_text.Goals as goal

pub returns : goal.returns
returns c = record { again = line_again; back = line_back; bytes = line_lacks }
