use Rattle.larch_derive_clauses.proofs.Staying.{cases_stay, all_same_stay, generated_stays, partitioned_stays}
use Rattle.larch_derive_clauses.proofs.laws.showing_stays.Goals as goal

pub returns : goal.returns
returns c =
    record {
      cases = cases_stay;
      same = all_same_stay;
      generated = generated_stays;
      partitioned = partitioned_stays;
    }
