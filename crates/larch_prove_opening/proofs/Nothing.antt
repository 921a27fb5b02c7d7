-- Where there are no facts.
use Rattle.std.specs.Prelude.{◌≡◌, is_some, map}
use Rattle.larch_prove_adding.specs.KeptFacts.{AreNone, KeptFacts, fact_by, facts_of}
use Rattle.larch_prove_adding.specs.ProveMeaningFacts.{no_facts}

pub none_are : (k : KeptFacts) → AreNone k → facts_of k ≡ no_facts
none_are k h = λ i. record { rules = map fact_by (h.0 i); contradictory = is_some (h.1 i) }
