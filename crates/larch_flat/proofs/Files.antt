-- The flat trait of a file, by what its text says.
use Rattle.std.proofs.Common.{◌≡◌, refl, sym, ap, ◌∙◌, ℕ, suc, Bool, true, false, length, List, Option, Some, None}
use Rattle.std.proofs.Common.{Result, Ok, Err}
use Rattle.std.specs.Prelude.{bytes_eq, not}
use Rattle.larch_base.specs.declared.code.Code.TheVariants.{TraitName}
use Rattle.larch_base.specs.declared.fault.Fault.{Fault}
use Rattle.larch_raw.specs.declared.equation.RawTrait.{RawTrait}
use Rattle.larch_flat_sources.specs.SortsMeaningFaults.{fault}
use Rattle.larch_base_meaning.specs.Steps.{after, all_taken}
use Rattle.larch_flat_sources.specs.FlatMeaningFlat.{FlatTrait, flat_file, flat_of, take_reference, take_rest}
use Rattle.larch_flat_sources.specs.FlatMeaningGathered.{Gathered, nothing}
use Rattle.larch_flat_sources.specs.FlatMeaningLaws.{gathered_in}
use Rattle.larch_flat_sources.specs.FlatMeaningStops.{Stop, Refused, TooDeep, stopped_if, surely}
use Rattle.larch_flat_sources.specs.Sources.{Table, files_in}
use Rattle.larch_flat.specs.Parts.{flat_trait, parts_of, with_reference}

-- a flat trait is that of its file, where references are followed in the same way
abbrev pub Unfolds : Table → List ℕ → Type 0
Unfolds sources name =
    flat_trait sources name ≡ flat_file (suc (length sources)) (files_in sources) name (flat_trait sources)
    (files_in sources name)

-- something is wrong with its text
pub bad_text : (sources : Table) (name : List ℕ) (f : Fault) → Unfolds sources name
    → files_in sources name ≡ Some (Err f) → flat_trait sources name ≡ Err (Refused f)
bad_text sources name f u e = u ∙ ap (flat_file (suc (length sources)) (files_in sources) name (flat_trait sources)) e

by_raw : (sources : Table) (name : List ℕ) (raw : RawTrait) → Unfolds sources name
    → files_in sources name ≡ Some (Ok raw)
    → flat_trait sources name ≡ flat_of (suc (length sources)) (files_in sources) name (flat_trait sources) raw
by_raw sources name raw u e = u ∙ ap (flat_file (suc (length sources)) (files_in sources) name (flat_trait sources)) e

misnamed : (name : List ℕ) (raw : RawTrait) (b : Bool) (next : Result FlatTrait Stop) → not b ≡ true
    → stopped_if TraitName raw.name.pos (not b) next ≡ Err (Refused (fault TraitName raw.name.pos))
misnamed name raw true next e = cc
misnamed name raw false next e = refl

well_named : (name : List ℕ) (raw : RawTrait) (b : Bool) (next : Result FlatTrait Stop) → not b ≡ false
    → stopped_if TraitName raw.name.pos (not b) next ≡ next
well_named name raw true next e = refl
well_named name raw false next e = cc

-- the trait has another name
pub other_name : (sources : Table) (name : List ℕ) (raw : RawTrait) → Unfolds sources name
    → files_in sources name ≡ Some (Ok raw) → not (bytes_eq raw.name.name name) ≡ true
    → parts_of (flat_trait sources name) ≡ Err (Refused (fault TraitName raw.name.pos))
other_name sources name raw u e b =
    ap parts_of (by_raw sources name raw u e ∙ misnamed name raw (bytes_eq raw.name.name name) _ b)

rest_parts : (x : Result FlatTrait Fault) → parts_of (surely x) ≡ surely (after x (λ t. Ok (gathered_in t)))
rest_parts (Ok t) = refl
rest_parts (Err f) = refl

-- it has its own: the parts of what is gathered from its references, and of the rest
pub own_parts : (sources : Table) (name : List ℕ) (raw : RawTrait) → Unfolds sources name
    → files_in sources name ≡ Some (Ok raw) → not (bytes_eq raw.name.name name) ≡ false
    → parts_of (flat_trait sources name)
    ≡ parts_of (after (all_taken (with_reference sources name) raw.references nothing) (λ g. surely (take_rest raw g)))
own_parts sources name raw u e b =
    ap parts_of (by_raw sources name raw u e ∙ well_named name raw (bytes_eq raw.name.name name) _ b)

-- a reference can't be taken
pub stopped_parts : (raw : RawTrait) (all : Result Gathered Stop) (stop : Stop) → all ≡ Err stop
    → parts_of (after all (λ g. surely (take_rest raw g))) ≡ Err stop
stopped_parts raw all stop e = ap (λ x. parts_of (after x (λ g. surely (take_rest raw g)))) e

-- all are taken
pub gathered_parts : (raw : RawTrait) (all : Result Gathered Stop) (g : Gathered) → all ≡ Ok g
    → parts_of (after all (λ g. surely (take_rest raw g))) ≡ surely (after (take_rest raw g) (λ t. Ok (gathered_in t)))
gathered_parts raw all g e =
    ap (λ x. parts_of (after x (λ g. surely (take_rest raw g)))) e ∙ rest_parts (take_rest raw g)
