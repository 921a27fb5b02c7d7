use Rattle.larch_rewrite_meaning.proofs.SortsKept.{normal_keeps}
use Rattle.larch_rewrite_meaning.proofs.laws.normal_forms_keep_sorts.Goals as goal

pub returns : goal.returns
returns c fs rules t b u r a w h = normal_keeps fs rules t b u r a w h
