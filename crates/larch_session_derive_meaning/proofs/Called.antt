-- A report calls a duty proved exactly where its answer says so.
use Rattle.std.proofs.Common.{◌≡◌, ◌↔◌, refl, sym, ap, ◌∙◌, ℕ, suc, Bool, true, false, ◌&&◌, if◌then◌else◌, cond, not}
use Rattle.std.proofs.Common.{List, [], ◌∷◌, ◌++◌, flat_map, length, map, Option, Some, None, Result, Ok, Err, inl, inr}
use Rattle.std.specs.Prelude.{bytes_eq, filter, is_some}
use Rattle.std.specs.Cmp.Lexicographic.{bytes_decides}
use Rattle.std.specs.List.{list_any}
use Rattle.std.specs.Map.{lookup}
use Rattle.std.proofs.lemmas.List.{append_assoc, map-append}
use Rattle.larch_base.proofs.Bools.{true_or_false}
use Rattle.larch_base.specs.FileName.{stem_of}
use Rattle.larch_base.specs.declared.code.Code.{Code}
use Rattle.larch_base.specs.declared.code.Code.TheVariants.{DutyTwice, UnknownDuty}
use Rattle.larch_base.specs.declared.fault.Fault.{Fault}
use Rattle.larch_base.specs.declared.label.Label.{Label}
use Rattle.larch_session_law.specs.DutiesTraitDuties.{claims_of, trait_claims}
use Rattle.larch_duties_meaning.specs.Claims.{Claim, claims_in, same_label}
use Rattle.larch_duties_meaning.specs.Duties.{Duties}
use Rattle.larch_flat_meaning.specs.Files.{Files, is_there}
use Rattle.larch_flat_meaning.specs.Flat.{FlatTrait, flat, flat_by, flat_file}
use Rattle.larch_flat_meaning.specs.Stops.{Stop, TooDeep}
use Rattle.larch_flat_meaning.specs.Stops as stop
use Rattle.larch_session_law.specs.FlatSourcesSources.{Table as Sources, files_in}
use Rattle.larch_prove_meaning.specs.Replays.{Outcome, Proved, Refused, Suspended}
use Rattle.larch_prove_meaning.specs.Reports.{Answered, ScriptFault, TraitLine, all_answered, is_proved, line_for}
use Rattle.larch_prove_meaning.specs.Reports.{script_lines}
use Rattle.larch_prove_meaning.specs.Scripts as scripts
use Rattle.larch_raw.specs.declared.equation.RawTrait.{RawTrait}
use Rattle.larch_report.specs.declared.line.ReportLine.{ReportLine}
use Rattle.larch_report.specs.declared.line.ReportLine.TheVariants.{Stray}
use Rattle.larch_script_commands.specs.declared.script.Block.{Block}
use Rattle.larch_script_commands.specs.declared.script.Script.{Script}
use Rattle.larch_session_derive_meaning.specs.Called.{call_proved, calls_proved}
use Rattle.larch_session_derive_meaning.specs.Derived.{Derives, IsDerivedOf, answer_with, answers_by, answers_on}
use Rattle.larch_session_law.specs.SessionMeaningFiles.{is_stray, report_of, script_among, stray_lines}
use Rattle.larch_session_law.specs.SessionMeaningTraits.{reported_line, script_duty, trait_report}
use Rattle.larch_session_law.specs.TraitsFiles.{Table, names_of}
use Rattle.larch_session_law.specs.TraitsReading.{read_files}
use Rattle.larch_base_meaning.specs.Steps.{after}

-- whether a duty that was found is proved; where none was, this is so
abbrev told : Option Answered → Bool → Bool
told None r = r
told (Some a) r = is_proved a.outcome

-- whether the first answer with a label is that all is proved
abbrev is_answered : Label → List Answered → Bool
is_answered label answers = told (answer_with label answers) false

told_twice : (o : Option Answered) (m : Bool) → told o (m && told o false) ≡ told o false
told_twice None true = refl
told_twice None false = refl
told_twice (Some a) m = refl

and_false : (m : Bool) → (m && false) ≡ false
and_false true = refl
and_false false = refl

-- the lines of a trait's duties, and those of its script
abbrev duty_lines : Script → List Answered → List TraitLine
duty_lines script answers = map (λ a. line_for script a.duty.label a.outcome) answers

split_lines : (xs ys : List TraitLine) (rest : List ReportLine)
    → map reported_line (xs ++ ys) ++ rest ≡ map reported_line xs ++ (map reported_line ys ++ rest)
split_lines xs ys rest =
    ap (λ ls. ls ++ rest) (map-append reported_line xs ys)
    ∙ append_assoc (map reported_line xs) (map reported_line ys) rest

module _ (stem : List ℕ) (label : Label) where
  abbrev say : Bool → List ReportLine → Bool
  say own lines = call_proved stem label own lines

  -- ---- lines of one trait

  duty_line : (own : Bool) (script : Script) (l : Label) (o : Outcome) (rest : List ReportLine)
      → say own (reported_line (line_for script l o) ∷ rest)
      ≡ (if own && same_label label l then is_proved o else say own rest)
  duty_line own script l Proved rest = refl
  duty_line own script l (Suspended n goal) rest = refl
  duty_line own script l (Refused refused) rest = refl

  -- those of another trait say nothing
  others_say : (script : Script) (answers : List Answered) (rest : List ReportLine)
      → say false (map reported_line (duty_lines script answers) ++ rest) ≡ say false rest
  others_say script [] rest = refl
  others_say script (a ∷ answers) rest =
      duty_line false script a.duty.label a.outcome (map reported_line (duty_lines script answers) ++ rest)
      ∙ others_say script answers rest

  picked : (b : Bool) (a : Answered) (o : Option Answered) (q r : Bool) → q ≡ told o r
      → (if b then is_proved a.outcome else q) ≡ told (cond b (Some a) o) r
  picked true a o q r e = refl
  picked false a o q r e = e

  own_say : (script : Script) (answers : List Answered) (rest : List ReportLine)
      → say true (map reported_line (duty_lines script answers) ++ rest)
      ≡ told (answer_with label answers) (say true rest)
  own_say script [] rest = refl
  own_say script (a ∷ answers) rest =
      duty_line true script a.duty.label a.outcome (map reported_line (duty_lines script answers) ++ rest)
      ∙ picked (same_label label a.duty.label) a (answer_with label answers)
      (say true (map reported_line (duty_lines script answers) ++ rest)) (say true rest) (own_say script answers rest)

  skipped : (own p q : Bool) (n : ℕ) (c d : Code) (lines : List TraitLine) (rest : List ReportLine)
      → say own (map reported_line
      (if p then ScriptFault n c ∷ lines else if q then ScriptFault n d ∷ lines else lines) ++ rest)
      ≡ say own (map reported_line lines ++ rest)
  skipped own true q n c d lines rest = refl
  skipped own false true n c d lines rest = refl
  skipped own false false n c d lines rest = refl

  scripts_say : (own : Bool) (ds es : List Label) (bs : List Block) (rest : List ReportLine)
      → say own (map reported_line (script_lines ds es bs) ++ rest) ≡ say own rest
  scripts_say own ds es [] rest = refl
  scripts_say own ds es (b ∷ bs) rest =
      skipped own (not (list_any (scripts.same_label b.label) ds)) (list_any (scripts.same_label b.label) es) b.line
      UnknownDuty DutyTwice (script_lines ds (b.label ∷ es) bs) rest
      ∙ scripts_say own ds (b.label ∷ es) bs rest

  -- ---- traits, one after the other

  module _ (limit : ℕ) (script : Script) (name : List ℕ) (rest : List ReportLine) where
    other_says : (own x : Bool) (r : Result (List Claim) Stop) → bytes_eq stem name ≡ false
        → ((b : Bool) → say b rest ≡ x) → say own (trait_report limit script name r ++ rest) ≡ x
    other_says own x (Ok claims) other h =
        let ds = map script_duty claims in
        let answers = all_answered limit script [] 1 ds in
        let others = script_lines (map (λ d. d.label) ds) [] script.blocks in
        ap (λ b. say b (map reported_line (duty_lines script answers ++ others) ++ rest)) other
        ∙ ap (say false) (split_lines (duty_lines script answers) others rest)
        ∙ others_say script answers (map reported_line others ++ rest)
        ∙ scripts_say false (map (λ d. d.label) ds) [] script.blocks rest ∙ h false
    other_says own x (Err (stop.Refused fault)) other h = h false
    other_says own x (Err TooDeep) other h = h own

    own_says : (own m : Bool) (r : Result (List Claim) Stop) → bytes_eq stem name ≡ true
        → ((b : Bool) → say b rest ≡ (m && is_answered label (answers_by limit script r)))
        → say own (trait_report limit script name r ++ rest) ≡ is_answered label (answers_by limit script r)
    own_says own m (Ok claims) same h =
        let ds = map script_duty claims in
        let answers = all_answered limit script [] 1 ds in
        let others = script_lines (map (λ d. d.label) ds) [] script.blocks in
        ap (λ b. say b (map reported_line (duty_lines script answers ++ others) ++ rest)) same
        ∙ ap (say true) (split_lines (duty_lines script answers) others rest)
        ∙ own_say script answers (map reported_line others ++ rest)
        ∙ ap (told (answer_with label answers))
        (scripts_say true (map (λ d. d.label) ds) [] script.blocks rest ∙ h true)
        ∙ told_twice (answer_with label answers) m
    own_says own m (Err (stop.Refused fault)) same h = h false ∙ and_false m
    own_says own m (Err TooDeep) same h = h own ∙ and_false m

  strays_say : (own : Bool) (names : List (List ℕ)) → say own (map (λ n. Stray (stem_of n)) names) ≡ false
  strays_say own [] = refl
  strays_say own (n ∷ names) = strays_say own names

  module _ (limit : ℕ) (files : Table) (all : Sources) where
    abbrev own_answered : Bool
    own_answered = is_answered label (answers_by limit (script_among files stem) (trait_claims all stem))

    abbrev lines_of : List ℕ → List ReportLine
    lines_of name = trait_report limit (script_among files name) name (trait_claims all name)

    sources_say : (sources : Sources) (own : Bool)
        → say own (flat_map (λ source. lines_of source.0) sources ++ stray_lines files)
        ≡ (is_some (lookup (bytes_eq stem) sources) && own_answered)
    sources_say [] own = strays_say own (filter (is_stray files) (names_of files))
    sources_say (s ∷ sources) own =
        let further = flat_map (λ source. lines_of source.0) sources in
        let rest = further ++ stray_lines files in
        let m = is_some (lookup (bytes_eq stem) sources) in
        ap (say own) (append_assoc (lines_of s.0) further (stray_lines files))
        ∙ elim (true_or_false (bytes_eq stem s.0)) [
          | inl same ↦
              let named : stem ≡ s.0 = (bytes_decides stem s.0).0 same in
              ap (λ n. say own (lines_of n ++ rest)) (sym named)
              ∙ own_says limit (script_among files stem) stem rest own m (trait_claims all stem)
              ((bytes_decides stem stem).1 refl) (λ b. sources_say sources b)
              ∙ sym (ap (λ b. is_some (cond b (Some s.1) (lookup (bytes_eq stem) sources)) && own_answered) same)
          | inr other ↦
              other_says limit (script_among files s.0) s.0 rest own (m && own_answered) (trait_claims all s.0) other
              (λ b. sources_say sources b)
              ∙ sym (ap (λ b. is_some (cond b (Some s.1) (lookup (bytes_eq stem) sources)) && own_answered) other)
        ]

-- ---- a trait that isn't there

absent_by : (limit : ℕ) (script : Script) (depth : ℕ) (files : Files) (name : List ℕ)
    (next : List ℕ → Result FlatTrait Stop) (claims : FlatTrait → Result Duties Stop) → is_some (files name) ≡ false
    → answers_by limit script (after (after (flat_file depth files name next (files name)) claims)
    (λ d. Ok (claims_in d))) ≡ []
absent_by limit script depth files name next claims e = by_text (files name) e
  where
    by_text : (text : Option (Result RawTrait Fault)) → is_some text ≡ false
        → answers_by limit script (after (after (flat_file depth files name next text) claims)
        (λ d. Ok (claims_in d))) ≡ []
    by_text None e = refl
    by_text (Some text) e = cc

pub absent_has_none : (limit : ℕ) (script : Script) (sources : Sources) (name : List ℕ)
    → is_there (files_in sources) name ≡ false → answers_by limit script (trait_claims sources name) ≡ []
unfolding flat
absent_has_none limit script sources name e =
    absent_by limit script (suc (length sources)) (files_in sources) name
    (flat_by (length sources) (suc (length sources)) (files_in sources)) (claims_of sources) e

and_there : (t d : Bool) → (t ≡ false → d ≡ false) → (t && d) ≡ d
and_there true d h = refl
and_there false d h = sym (h refl)

-- ---- the report

report_says : (limit : ℕ) (files : Table) (stem : List ℕ) (label : Label)
    → calls_proved (report_of limit files) stem label ≡ is_answered label (answers_on limit files stem)
unfolding report_of
report_says limit files stem label =
    let sources : Sources = read_files files in
    sources_say stem label limit files sources sources false
    ∙ and_there (is_some (lookup (bytes_eq stem) sources)) (is_answered label (answers_on limit files stem))
    (λ none. ap (is_answered label) (absent_has_none limit (script_among files stem) sources stem none))

to_told : (o : Option Answered) → IsDerivedOf o None → told o false ≡ false
to_told None h = refl
to_told (Some a) h = h

from_told : (o : Option Answered) → told o false ≡ false → IsDerivedOf o None
from_told None e = refl
from_told (Some a) e = e

pub none_derived : (limit : ℕ) (files : Table) (stem : List ℕ) (label : Label)
    → Derives limit files stem label None ↔ (calls_proved (report_of limit files) stem label ≡ false)
none_derived limit files stem label =
    let o = answer_with label (answers_on limit files stem) in (
      (λ h. report_says limit files stem label ∙ to_told o h),
      (λ e. from_told o (sym (report_says limit files stem label) ∙ e)),
    )
