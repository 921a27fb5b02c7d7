use Rattle.larch_certificate_text.proofs.CertificateLaws.{certificate_again, certificate_back, one_certificate}
use Rattle.larch_certificate_text.proofs.laws.certificate_has_one_text.Goals as goal

pub returns : goal.returns
returns c = record { again = certificate_again; back = certificate_back; one = one_certificate }
