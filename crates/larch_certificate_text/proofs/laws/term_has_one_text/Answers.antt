use Rattle.std.proofs.Common.{[]}
use Rattle.larch_certificate.specs.Coded.{coded_app, term_then}
use Rattle.larch_certificate_text.specs.TermText.{fresh}
use Rattle.larch_certificate_text.proofs.TermLaws.{tree_run, run_read}
use Rattle.larch_certificate_text.proofs.laws.term_has_one_text.Goals as goal

pub returns : goal.returns
returns c =
    record {
      read = λ h text t rest l e. run_read h text t rest l (fresh []) (tt, tt) e;
      again = λ h f t ts rest l k. tree_run h (coded_app f (term_then t ts)) [] rest l k;
    }
