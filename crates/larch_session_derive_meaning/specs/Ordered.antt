-- What a trait claims, as it has to be for certificates of lemmas to be joined.
use Rattle.std.specs.Prelude.{◌≡◌, true, List, ◌∷◌, ◌++◌, Contains, None}
use Rattle.larch_calculus.specs.Theories.{IsPrefix}
use Rattle.larch_prove_meaning.specs.Reports.{may_serve}
use Rattle.larch_prove_meaning.specs.Scripts.{ClaimedDuty}

-- the theory of what may serve a duty as a lemma begins the duty's; and duties of no clause come first
pub record AreInOrder (ds : List ClaimedDuty) : Type 0 where
  pub begin : (d e : ClaimedDuty) → Contains ds d → Contains ds e → may_serve d.clause e.clause ≡ true
      → IsPrefix d.theory e.theory
  pub first : (before rest : List ClaimedDuty) (d e : ClaimedDuty) → ds ≡ before ++ d ∷ rest → d.clause ≡ None
      → Contains before e → e.clause ≡ None
