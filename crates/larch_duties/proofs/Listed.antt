-- What is written of the trait of a name, by its flat trait and its duties.
use Rattle.std.proofs.Common.{◌≡◌, sym, ap, ◌∙◌, ℕ, List, Option, Some, None, Result, Ok, Err}
use Rattle.std.specs.Prelude.{IfSome}
use Rattle.larch_raw.specs.declared.equation.RawTrait.{RawTrait}
use Rattle.larch_base_meaning.specs.Steps.{after}
use Rattle.larch_flat_meaning.specs.Flat.{FlatTrait}
use Rattle.larch_flat_meaning.specs.Gathered.{Gathered}
use Rattle.larch_flat_meaning.specs.Laws.{gathered_in}
use Rattle.larch_flat_meaning.specs.Stops.{Stop}
use Rattle.larch_duties_meaning.specs.Duties.{Duties}
use Rattle.larch_duties_meaning.specs.Listing.{trait_listing}
use Rattle.larch_flat.specs.FlatSourcesSources.{Table}
use Rattle.larch_flat.specs.Parts.{flat_trait, parts_of}
use Rattle.larch_duties.specs.TraitDuties.{claims_of, flat_with, trait_duties, trait_listed}

same_parts : (t : FlatTrait) (g : Gathered) → parts_of (Ok t) ≡ Ok g → gathered_in t ≡ g
same_parts t g e = cc

listed_by : (claims : FlatTrait → Result Duties Stop) (r : Result FlatTrait Stop) (g : Gathered) (d : Duties)
    (text : List ℕ)
    → parts_of r ≡ Ok g → after r claims ≡ Ok d → ((raw : RawTrait) → text ≡ trait_listing (flat_with raw g) d)
    → after r (λ own. after (claims own) (λ d. Ok (trait_listing own d))) ≡ Ok text
listed_by claims (Err s) g d text p e h = cc
listed_by claims (Ok own) g d text p e h =
    ap (λ r. after r (λ d. Ok (trait_listing own d))) e
    ∙ ap Ok (ap (λ h. trait_listing (flat_with own.raw h) d) (same_parts own g p) ∙ sym (h own.raw))

-- all is right
pub listed_told : (sources : Table) (name : List ℕ) (g : Gathered) (d : Duties) (text : List ℕ)
    → parts_of (flat_trait sources name) ≡ Ok g → trait_duties sources name ≡ Ok d
    → ((raw : RawTrait) → text ≡ trait_listing (flat_with raw g) d) → trait_listed sources name ≡ Ok text
listed_told sources name g d text p e h = listed_by (claims_of sources) (flat_trait sources name) g d text p e h

stopped_by : (claims : FlatTrait → Result Duties Stop) (r : Result FlatTrait Stop) (s : Stop) → after r claims ≡ Err s
    → after r (λ own. after (claims own) (λ d. Ok (trait_listing own d))) ≡ Err s
stopped_by claims (Err t) s e = cc
stopped_by claims (Ok own) s e = ap (λ r. after r (λ d. Ok (trait_listing own d))) e

-- the duties are wrong
pub listing_stopped : (sources : Table) (name : List ℕ) (o : Option Stop)
    → IfSome o (λ s. trait_duties sources name ≡ Err s)
    → IfSome o (λ s. trait_listed sources name ≡ Err s)
listing_stopped sources name None h = tt
listing_stopped sources name (Some s) h = stopped_by (claims_of sources) (flat_trait sources name) s h

-- the flat trait is wrong
pub no_listing : (sources : Table) (name : List ℕ) (s : Stop) → flat_trait sources name ≡ Err s
    → trait_listed sources name ≡ Err s
no_listing sources name s e = ap (λ r. after r (λ own. after (claims_of sources own) (λ d. Ok (trait_listing own d)))) e
