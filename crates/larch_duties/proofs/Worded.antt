-- Where files are written with words, so are the duties of what is read of them; and these are sound.
use Rattle.std.proofs.Common.{◌≡◌, refl, subst, ℕ, length, List, All, Result, Ok, Err}
use Rattle.larch_duties_meaning.specs.CalculusRenaming.{HasPlainNames}
use Rattle.larch_flat_meaning.specs.SortsMeaningLaws.{StatementSorts}
use Rattle.larch_base_meaning.specs.Word.{IsWord}
use Rattle.larch_flat_meaning.proofs.TraitsItemsKept.{after_was, ok_inj}
use Rattle.larch_flat_meaning.specs.Flat.{FlatTrait, theory_of}
use Rattle.larch_flat_meaning.specs.Gathered.{Gathered}
use Rattle.larch_flat_meaning.specs.Laws.{AreWorded, IsInWords, IsTheoryInWords, gathered_in}
use Rattle.larch_flat_meaning.specs.Stops.{Stop}
use Rattle.larch_flat_meaning.proofs.Variables.{Says, both_hold, variables_words}
use Rattle.larch_flat_meaning.proofs.Variables.{discharge_in_words as discharge_words}
use Rattle.larch_flat_meaning.proofs.Words.{operators_words, statements_words}
use Rattle.larch_duties_meaning.specs.Claims.{Claim, claims_in, duty_of}
use Rattle.larch_duties_meaning.specs.Duties.{Duties, Duty, all_duties}
use Rattle.larch_duties_meaning.specs.Laws.{IsDutyInWords, IsSoundDuty}
use Rattle.larch_duties_meaning.proofs.Claims.{each_has}
use Rattle.larch_duties_meaning.proofs.Plain.{duties_plain}
use Rattle.larch_duties_meaning.proofs.Sound.{duties_sound}
use Rattle.larch_duties_meaning.proofs.Words.{duties_words}
use Rattle.larch_flat.specs.FlatSourcesSources.{Table, files_in}
use Rattle.larch_flat.specs.Parts.{IsFlat, flat_trait, parts_of}
use Rattle.larch_duties.specs.Kept.{theory_in}
use Rattle.larch_duties.specs.TraitDuties.{claims_of, trait_claims, trait_duties}

flat_was : (r : Result FlatTrait Stop) (g : Gathered) → parts_of r ≡ Ok g
    → (t : FlatTrait) × (r ≡ Ok t) × (gathered_in t ≡ g)
flat_was (Ok t) g e = (t, refl, ok_inj e)
flat_was (Err stop) g e = absurd cc

-- what holds of all duties of a trait holds of them as they are kept
kept_have : (P : Duty → Type 0) (sources : Table) (name : List ℕ)
    → ((d : Duties) → trait_duties sources name ≡ Ok d → All P (all_duties d)) → (cs : List Claim)
    → trait_claims sources name ≡ Ok cs → All (λ c. P (duty_of c)) cs
kept_have P sources name h cs e =
    let p = after_was (trait_duties sources name) (λ d. Ok (claims_in d)) cs e in
    subst (All (λ c. P (duty_of c))) (ok_inj p.2) (each_has P p.0 (h p.0 p.1))

pub claims_plain : (sources : Table) (name : List ℕ) (cs : List Claim) → trait_claims sources name ≡ Ok cs
    → All (λ c. HasPlainNames c.theory) cs
claims_plain sources name cs e =
    kept_have (λ d. HasPlainNames d.theory) sources name
    (λ d f. let p = after_was (flat_trait sources name) (claims_of sources) d f in
    duties_plain (files_in sources) (length sources) name p.0 d p.1 p.2) cs e

module _ (sources : Table) (worded : AreWorded (files_in sources)) (name : List ℕ) where
  theory_words : (t : FlatTrait) → flat_trait sources name ≡ Ok t → IsTheoryInWords (theory_of t)
  theory_words t e = (
    operators_words (files_in sources) worded (length sources) name t e,
    both_hold (StatementSorts IsWord) Says (theory_of t).statements
        (statements_words (files_in sources) worded (length sources) name t e)
        (variables_words (files_in sources) worded (length sources) name t e),
  )

  pub theory_in_words : (g : Gathered) → IsFlat sources name (Ok g) → IsTheoryInWords (theory_in g)
  theory_in_words g e =
      let p = flat_was (flat_trait sources name) g e in
      subst (λ h. IsTheoryInWords (theory_in h)) p.2 (theory_words p.0 p.1)

  pub discharge_in_words : (g : Gathered) → IsFlat sources name (Ok g) → All IsInWords g.discharge
  discharge_in_words g e =
      let p = flat_was (flat_trait sources name) g e in
      subst (λ h. All IsInWords h.discharge) p.2
      (discharge_words (files_in sources) worded (length sources) name p.0 p.1)

  pub duties_in_words : (d : Duties) → trait_duties sources name ≡ Ok d → All IsDutyInWords (all_duties d)
  duties_in_words d e =
      let p = after_was (flat_trait sources name) (claims_of sources) d e in
      duties_words (files_in sources) worded (length sources) name p.0 d p.1 p.2

  duties_are_sound : (d : Duties) → trait_duties sources name ≡ Ok d → All IsSoundDuty (all_duties d)
  duties_are_sound d e =
      let p = after_was (flat_trait sources name) (claims_of sources) d e in
      duties_sound (files_in sources) worded (length sources) name p.0 d p.1 p.2

  pub claims_in_words : (cs : List Claim) → trait_claims sources name ≡ Ok cs → All (λ c. IsDutyInWords (duty_of c)) cs
  claims_in_words cs e = kept_have IsDutyInWords sources name duties_in_words cs e

  pub claims_sound : (cs : List Claim) → trait_claims sources name ≡ Ok cs → All (λ c. IsSoundDuty (duty_of c)) cs
  claims_sound cs e = kept_have IsSoundDuty sources name duties_are_sound cs e
