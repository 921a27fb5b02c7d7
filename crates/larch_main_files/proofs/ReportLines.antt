-- What comes of the traits of files, one after the other.
use Rattle.std.proofs.Common.{◌≡◌, refl, sym, ap, ◌∙◌, ℕ, ◌+◌, ◌<◌, length, drop, get_or, flat_map, List, [], ◌∷◌, ◌++◌}
use Rattle.std.proofs.Common.{Some, Result, Ok, Err, arith}
use Rattle.std.specs.List.{slice_get}
use Rattle.std.proofs.lemmas.List.{append_assoc, drop_more}
use Rattle.std.proofs.lemmas.Option.{slice_get-get_or}
use Rattle.larch_base.specs.declared.fault.Fault.{Fault}
use Rattle.larch_base_meaning.specs.Steps.{after}
use Rattle.larch_flat_meaning.specs.Flat.{FlatTrait}
use Rattle.larch_flat_meaning.specs.Stops.{Stop, Refused, TooDeep}
use Rattle.larch_flat_sources.specs.Sources.{Table as Sources, name_at}
use Rattle.larch_flat_sources.proofs.Tables.{name_got}
use Rattle.larch_traits.specs.FlatParts.{flat_trait}
use Rattle.larch_duties_meaning.specs.Duties.{Duties}
use Rattle.larch_duties_meaning.specs.Listing.{trait_listing}
use Rattle.larch_session_meaning.specs.DutiesTraitDuties.{claims_of, trait_duties, trait_listed}
use Rattle.larch_main_files.specs.Obligations.{listed_at, listing_of}
use Rattle.larch_main_files.specs.Report.{IsLineOf, trait_lines}
use Rattle.larch_report.specs.Text.{line_text}
use Rattle.larch_report.specs.declared.line.ReportLine.{ReportLine}
use Rattle.larch_report.specs.declared.line.ReportLine.TheVariants.{Right, Wrong}

entry_at : {A : Type 0} (xs : List A) (i : ℕ) → i < length xs
    → (x : A) × (drop i xs ≡ x ∷ drop (i + 1) xs) × (slice_get xs i ≡ Some x)
entry_at [] i lt = absurd (omega (arith, lt))
entry_at (y ∷ ys) i lt = (get_or (y ∷ ys) i y, drop_more (y ∷ ys) i y lt, slice_get-get_or (y ∷ ys) i y lt)

-- what comes of the next name is put behind what came of those before
pub next_piece : {A : Type 0} (f : List ℕ → List A) (sources : Sources) (i : ℕ) (out next whole : List A)
    → i < length sources
    → next ≡ out ++ f (name_at sources i) → out ++ flat_map (λ source. f source.0) (drop i sources) ≡ whole
    → next ++ flat_map (λ source. f source.0) (drop (i + 1) sources) ≡ whole
next_piece f sources i out next whole lt put e =
    let p = entry_at sources i lt in
    let named : name_at sources i ≡ p.0.0 = name_got sources i p.0.0 p.0.1 p.2 in
    let rest = flat_map (λ source. f source.0) (drop (i + 1) sources) in
    ap (λ x. x ++ rest) (put ∙ ap (λ n. out ++ f n) named) ∙ append_assoc out (f p.0.0) rest
    ∙ sym (ap (λ xs. out ++ flat_map (λ source. f source.0) xs) p.1) ∙ e

-- the line of the next trait is put behind the others
pub next_line : (sources : Sources) (i : ℕ) (lines next whole : List ReportLine) (line : ReportLine)
    → i < length sources
    → IsLineOf sources (name_at sources i) line → next ≡ lines ++ line ∷ []
    → lines ++ flat_map (λ source. trait_lines source.0 (trait_duties sources source.0)) (drop i sources) ≡ whole
    → next ++ flat_map (λ source. trait_lines source.0 (trait_duties sources source.0)) (drop (i + 1) sources) ≡ whole
next_line sources i lines next whole line lt is put e =
    next_piece (λ stem. trait_lines stem (trait_duties sources stem)) sources i lines next whole lt
    (put ∙ ap (λ x. lines ++ x) (sym is)) e

-- the line is the same by the listing
line_by : (sources : Sources) (stem : List ℕ) (own : FlatTrait) (d : Result Duties Stop)
    → trait_lines stem (after d (λ x. Ok (trait_listing own x))) ≡ trait_lines stem d
line_by sources stem own (Ok d) = refl
line_by sources stem own (Err (Refused fault)) = refl
line_by sources stem own (Err TooDeep) = refl

line_of_flat : (sources : Sources) (stem : List ℕ) (flat : Result FlatTrait Stop)
    → trait_lines stem (after flat (λ own. after (claims_of sources own) (λ d. Ok (trait_listing own d))))
    ≡ trait_lines stem (after flat (claims_of sources))
line_of_flat sources stem (Ok own) = line_by sources stem own (claims_of sources own)
line_of_flat sources stem (Err (Refused fault)) = refl
line_of_flat sources stem (Err TooDeep) = refl

pub listed_line : (sources : Sources) (stem : List ℕ)
    → trait_lines stem (trait_listed sources stem) ≡ trait_lines stem (trait_duties sources stem)
listed_line sources stem = line_of_flat sources stem (flat_trait sources stem)

-- a trait without fault, by its listing
pub right_line : (sources : Sources) (stem trait_listing : List ℕ) → trait_listed sources stem ≡ Ok trait_listing
    → IsLineOf sources stem (Right stem)
right_line sources stem trait_listing e = sym (listed_line sources stem) ∙ ap (trait_lines stem) e

pub right_listing : (sources : Sources) (stem trait_listing : List ℕ) → trait_listed sources stem ≡ Ok trait_listing
    → listed_at sources stem ≡ line_text (Right stem) ++ trait_listing
right_listing sources stem trait_listing e = ap (listing_of stem) e

-- a trait with a fault
pub wrong_line : (sources : Sources) (stem : List ℕ) (fault : Fault) → trait_listed sources stem ≡ Err (Refused fault)
    → IsLineOf sources stem (Wrong stem fault)
wrong_line sources stem fault e = sym (listed_line sources stem) ∙ ap (trait_lines stem) e

pub wrong_listing : (sources : Sources) (stem : List ℕ) (fault : Fault)
    → trait_listed sources stem ≡ Err (Refused fault)
    → listed_at sources stem ≡ line_text (Wrong stem fault)
wrong_listing sources stem fault e = ap (listing_of stem) e
