use Rattle.larch_certificate_text.proofs.Cuts.{cut_some}
use Rattle.larch_certificate_text.proofs.Refs.{ref_by_read, ref_by_again}
use Rattle.larch_certificate_text.proofs.laws.name_of_a_line_has_one_text.Goals as goal

pub returns : goal.returns
returns c = record {
  read = λ h text m s e. ref_by_read h.relative h.line text m s e;
  again = λ h m s k. ref_by_again h.relative h.line m s k;
  cut = cut_some;
}
