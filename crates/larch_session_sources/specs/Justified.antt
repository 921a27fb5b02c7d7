-- What reports show.
use Rattle.std.specs.Prelude.{◌≡◌, ℕ, List, [], map, All, Ok}
use Rattle.larch_session_law.specs.DutiesTraitDuties.{trait_claims}
use Rattle.larch_session_law.specs.DutiesMeaningClaims.{Claim}
use Rattle.larch_session_law.specs.ProveMeaningReports.{all_answered}
use Rattle.larch_session_law.specs.Certified.{IsJustified}
use Rattle.larch_session_law.specs.SessionMeaningFiles.{script_among}
use Rattle.larch_session_law.specs.SessionMeaningTraits.{script_duty}
use Rattle.larch_session_law.specs.TraitsFiles.{Table}
use Rattle.larch_session_law.specs.TraitsReading.{read_files}

-- each duty of a trait that a report on these files calls proved is derivable from its own theory
unfoldable pub AreJustified : ℕ → Table → List ℕ → Type 0
AreJustified limit files stem =
    (claims : List Claim) → trait_claims (read_files files) stem ≡ Ok claims
    → All IsJustified (all_answered limit (script_among files stem) [] 1 (map script_duty claims))

-- so is each duty of each trait file
unfoldable pub IsJustifiedReport : ℕ → Table → Type 0
IsJustifiedReport limit files = All (λ source. AreJustified limit files source.0) (read_files files)
