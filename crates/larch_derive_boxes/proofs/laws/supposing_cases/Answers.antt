use Rattle.larch_derive_boxes.proofs.Inside.{induction_supposed, generation_supposed, observations_supposed}
use Rattle.larch_derive_boxes.proofs.laws.supposing_cases.Goals as goal

pub returns : goal.returns
returns c =
    record {
      induction = induction_supposed;
      generation = generation_supposed;
      partition = observations_supposed;
    }
