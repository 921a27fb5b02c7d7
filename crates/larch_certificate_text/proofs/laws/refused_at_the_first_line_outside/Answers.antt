use Rattle.larch_certificate_text.proofs.CertificateLaws.{certificate_outside, refused_text}
use Rattle.larch_certificate_text.proofs.OneRefusal.{one_refusal}
use Rattle.larch_certificate_text.proofs.laws.refused_at_the_first_line_outside.Goals as goal

pub returns : goal.returns
returns c = record { first = certificate_outside; none = refused_text; one = one_refusal }
