use Rattle.larch_calculus.proofs.Translation.{translated}
use Rattle.larch_calculus.proofs.RenamedTheories.{theory_renamed, renamed_taken_back, names_faithful, names_taken_back}
use Rattle.larch_calculus.proofs.RenamedTheories.{boxes_renamed, boxes_taken_back}
use Rattle.larch_calculus.proofs.laws.renaming.Goals as goal

pub returns : goal.returns
returns c =
    record {
      translation = λ r t u s x d. translated d r u x;
      theory = theory_renamed;
      both_ways = λ r q t s h k b w. (theory_renamed r t s h w, renamed_taken_back r q t s h k b w);
      names = names_faithful;
      names_back = names_taken_back;
      boxes = boxes_renamed;
      boxes_both_ways =
          λ new old t cs hs s r q h p w v.
          (boxes_renamed new t cs hs s r p w v, boxes_taken_back new old t cs hs s r q h p w v);
    }
