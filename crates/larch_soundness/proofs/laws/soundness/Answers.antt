use Rattle.std.proofs.Common.{◌≡◌, true, false, sym, ◌∙◌}
use Rattle.larch_calculus.proofs.WellSorted.{well_sorted}
use Rattle.larch_soundness.proofs.Computing.{holds_if}
use Rattle.larch_soundness.proofs.Sound.{sound, distinct_truths}
use Rattle.larch_soundness.proofs.laws.soundness.Goals as goal

pub returns : goal.returns
returns c =
    record {
      holding = λ t s m g k d. sound d m g k;
      computed = λ t s m g k d. holds_if k.interpretation s (well_sorted d) (sound d m g k);
      refuted = λ t s m r d.
          true_false (sym (holds_if r.model.interpretation s (well_sorted d) (sound d m r.well_sorted r.model))
          ∙ r.fails);
      consistent = λ t m g k d. distinct_truths k.interpretation (sound d m g k);
    }
  where
    true_false : true ≡ false → ⊥
    true_false e = cc
