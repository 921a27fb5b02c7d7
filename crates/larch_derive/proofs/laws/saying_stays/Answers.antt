use Rattle.larch_derive.proofs.Growth.{grown_said, grown_known, grown_stands, stays_said, stays_known}
use Rattle.larch_derive.proofs.laws.saying_stays.Goals as goal

pub returns : goal.returns
returns c =
    record {
      said = grown_said;
      known = grown_known;
      stands = grown_stands;
      said_still = stays_said;
      known_still = stays_known;
    }
