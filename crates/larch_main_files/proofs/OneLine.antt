-- A report has one line of each trait.
use Rattle.std.proofs.Common.{◌≡◌, refl, ◌∙◌, ap, ℕ, List, [], ◌∷◌, ◌++◌, length, map, flat_map, Result, Ok, Err, arith}
use Rattle.larch_flat_meaning.specs.Flat.{FlatTrait}
use Rattle.larch_flat_meaning.specs.Laws.{IsTold}
use Rattle.larch_flat_meaning.specs.Stops.{Stop, Refused, TooDeep}
use Rattle.larch_traits.specs.FlatParts.{flat_trait}
use Rattle.larch_base_meaning.specs.Steps.{after}
use Rattle.larch_flat_sources.specs.Sources.{Table as Sources, files_in, names_in}
use Rattle.larch_flat_sources.proofs.Tables.{among, names_length}
use Rattle.larch_duties_meaning.proofs.Told.{duties_told}
use Rattle.larch_session_meaning.specs.DutiesTraitDuties.{claims_of, trait_duties}
use Rattle.larch_main_files.specs.Laws.{stems_in}
use Rattle.larch_main_files.specs.Report.{trait_lines}
use Rattle.larch_report.specs.declared.line.ReportLine.{ReportLine}

one_line : {A : Type 0} (stem : List ℕ) (told_of : Result A Stop) (rest : List ReportLine) → IsTold told_of
    → flat_map stems_in (trait_lines stem told_of ++ rest) ≡ stem ∷ flat_map stems_in rest
one_line stem (Ok t) rest told = refl
one_line stem (Err (Refused fault)) rest told = refl
one_line stem (Err TooDeep) rest told = absurd told

claims_told : (sources : Sources) (own : FlatTrait) → IsTold (claims_of sources own)
claims_told sources own =
    let l = names_length sources in
    duties_told (files_in sources) (names_in sources) (among sources) (length sources) (omega (arith, l)) own

duties_by : (sources : Sources) (flat : Result FlatTrait Stop) → IsTold flat → IsTold (after flat (claims_of sources))
duties_by sources (Ok own) told = claims_told sources own
duties_by sources (Err (Refused fault)) told = tt
duties_by sources (Err TooDeep) told = absurd told

-- each of these files has one, where the flat trait of each is told
pub one_of_each : (sources : Sources) → ((stem : List ℕ) → IsTold (flat_trait sources stem)) → (files : Sources)
    → flat_map stems_in (flat_map (λ source. trait_lines source.0 (trait_duties sources source.0)) files)
    ≡ map (λ source. source.0) files
one_of_each sources told [] = refl
one_of_each sources told (file ∷ files) =
    one_line file.0 (trait_duties sources file.0)
    (flat_map (λ source. trait_lines source.0 (trait_duties sources source.0)) files)
    (duties_by sources (flat_trait sources file.0) (told file.0))
    ∙ ap (λ stems. file.0 ∷ stems) (one_of_each sources told files)
