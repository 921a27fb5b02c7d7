use Rattle.larch_calculus.proofs.WellSorted.{well_sorted}
use Rattle.larch_models_meaning.specs.Standard.{standard}
use Rattle.larch_soundness.proofs.Computing.{holds_if, model_so}
use Rattle.larch_soundness.proofs.Sound.{sound}
use Rattle.larch_soundness.proofs.Standards.{standard_interprets, standard_keeps}
use Rattle.larch_soundness.proofs.laws.standard_interpretations.Goals as goal

pub returns : goal.returns
returns c =
    record {
      interprets = standard_interprets;
      keeps = λ last tables f vs h le. standard_keeps last tables f h vs le;
      sound = λ t s last tables g h d.
          let i = standard_interprets last tables t.operators in
          holds_if i s (well_sorted d) (sound d (standard last tables) g (model_so i h));
    }
