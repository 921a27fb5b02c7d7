-- The lines of traits, and what they take, one after the other.
use Rattle.std.proofs.Common.{◌≡◌, sym, ap, ap₂, subst, ◌∙◌, ℕ, ◌+◌, ◌-◌, ◌<◌, ◌≤◌, arith, min, length, drop, take}
use Rattle.std.proofs.Common.{get_or, flat_map, List, [], ◌∷◌, ◌++◌, map, All, Some, Result, Ok, Err}
use Rattle.std.specs.List.{slice_get}
use Rattle.std.proofs.lemmas.List.{append_assoc, drop_more, take_more}
use Rattle.std.proofs.lemmas.List.Elements.{All-push}
use Rattle.std.proofs.lemmas.Option.{slice_get-get_or}
use Rattle.larch_session_law.specs.DutiesTraitDuties.{trait_claims}
use Rattle.larch_session_law.specs.DutiesMeaningClaims.{Claim}
use Rattle.larch_session_law.specs.FlatMeaningStops.{Stop}
use Rattle.larch_session_law.specs.FlatSourcesSources.{Table as Sources, name_at}
use Rattle.larch_session_law.proofs.FlatSourcesTables.{name_got}
use Rattle.larch_session_law.specs.ProveMeaningRedo.{Replayed, redo}
use Rattle.larch_session_law.specs.ProveMeaningReports.{all_answered}
use Rattle.larch_report.specs.declared.line.ReportLine.{ReportLine}
use Rattle.larch_session_sources.specs.Justified.{AreJustified}
use Rattle.larch_session_sources.proofs.Redone.{redo_append, redone_is}
use Rattle.larch_session_law.specs.Certified.{IsJustified}
use Rattle.larch_session_law.specs.SessionMeaningFiles.{report_of, script_among, source_lines, stray_lines}
use Rattle.larch_session_law.specs.SessionMeaningRedone.{replayed_for_trait, replayed_in, replayed_on}
use Rattle.larch_session_law.specs.SessionMeaningTraits.{script_duty, trait_report}
use Rattle.larch_session_sources.specs.Steps.{script_steps}
use Rattle.larch_session_law.specs.TraitsFiles.{Table}
use Rattle.larch_session_law.specs.TraitsReading.{read_files}
use Rattle.larch_session_law.proofs.TraitsItemsKept.{ok_inj}

-- what is read of the file with a number
pub entry_at : {A : Type 0} (xs : List A) (i : ℕ) → i < length xs
    → (x : A) × ((drop i xs ≡ x ∷ drop (i + 1) xs)
    × ((take (i + 1) xs ≡ take i xs ++ x ∷ []) × (slice_get xs i ≡ Some x)))
entry_at [] i lt = absurd (omega (arith, lt))
entry_at (y ∷ ys) i lt = (
  get_or (y ∷ ys) i y,
  (drop_more (y ∷ ys) i y lt, (take_more (y ∷ ys) i y lt, slice_get-get_or (y ∷ ys) i y lt)),
)

module _ (limit : ℕ) (files : Table) where
  -- the lines of the next trait are put behind the others
  pub next_lines : (all sources : Sources) (i : ℕ) (lines next whole : List ReportLine) → i < length sources
      → next ≡ lines ++ trait_report limit (script_among files (name_at sources i)) (name_at sources i)
      (trait_claims all (name_at sources i))
      → lines ++ flat_map (λ source. trait_report limit (script_among files source.0) source.0
      (trait_claims all source.0)) (drop i sources) ≡ whole
      → next ++ flat_map (λ source. trait_report limit (script_among files source.0) source.0
      (trait_claims all source.0)) (drop (i + 1) sources) ≡ whole
  next_lines all sources i lines next whole lt put e =
      let p = entry_at sources i lt in
      let f : List ℕ → List ReportLine =
      λ stem. trait_report limit (script_among files stem) stem (trait_claims all stem) in
      let named : name_at sources i ≡ p.0.0 = name_got sources i p.0.0 p.0.1 p.1.1.1 in
      let rest = flat_map (λ source. f source.0) (drop (i + 1) sources) in
      ap (λ x. x ++ rest) (put ∙ ap (λ n. lines ++ f n) named) ∙ append_assoc lines (f p.0.0) rest
      ∙ sym (ap (λ xs. lines ++ flat_map (λ source. f source.0) xs) p.1.0) ∙ e

  -- and its steps to the others
  pub next_steps : (all sources : Sources) (i : ℕ) (before now first whole : ℕ) → i < length sources
      → now ≤ before + redo [] (replayed_for_trait limit (script_among files (name_at sources i)) (name_at sources i)
      (trait_claims all (name_at sources i)))
      → before + redo [] (flat_map (λ source. replayed_for_trait limit (script_among files source.0) source.0
      (trait_claims all source.0)) (drop i sources)) ≤ whole
      → now + redo [] (flat_map (λ source. replayed_for_trait limit (script_among files source.0) source.0
      (trait_claims all source.0)) (drop (i + 1) sources)) ≤ whole
  next_steps all sources i before now first whole lt most e =
      let p = entry_at sources i lt in
      let f : List ℕ → List Replayed =
      λ stem. replayed_for_trait limit (script_among files stem) stem (trait_claims all stem) in
      let named : name_at sources i ≡ p.0.0 = name_got sources i p.0.0 p.0.1 p.1.1.1 in
      let rest = flat_map (λ source. f source.0) (drop (i + 1) sources) in
      let own : now ≤ before + redo [] (f p.0.0) = subst (λ n. now ≤ before + redo [] (f n)) named most in
      let split : redo [] (flat_map (λ source. f source.0) (drop i sources)) ≡ redo [] (f p.0.0) + redo [] rest =
      ap (λ xs. redo [] (flat_map (λ source. f source.0) xs)) p.1.0 ∙ redo_append (f p.0.0) rest in
      omega (arith, own, split, e)

  -- and what it shows
  pub next_justified : (sources : Sources) (i : ℕ) → i < length sources
      → All (λ source. AreJustified limit files source.0) (take i sources)
      → AreJustified limit files (name_at sources i)
      → All (λ source. AreJustified limit files source.0) (take (i + 1) sources)
  next_justified sources i lt h k =
      let p = entry_at sources i lt in
      let named : name_at sources i ≡ p.0.0 = name_got sources i p.0.0 p.0.1 p.1.1.1 in
      subst (All (λ source. AreJustified limit files source.0)) (sym p.1.1.0)
      (All-push (λ source. AreJustified limit files source.0) (take i sources) p.0 h
      (subst (AreJustified limit files) named k))

-- the duties of a trait that claims this are justified
pub own_justified : (limit : ℕ) (files : Table) (sources : Sources) (stem : List ℕ) (claims : List Claim)
    → sources ≡ read_files files → trait_claims sources stem ≡ Ok claims
    → All IsJustified (all_answered limit (script_among files stem) [] 1 (map script_duty claims))
    → AreJustified limit files stem
unfolding AreJustified
own_justified limit files sources stem claims read is h others e =
    subst (λ cs. All IsJustified (all_answered limit (script_among files stem) [] 1 (map script_duty cs)))
    (ok_inj (sym is ∙ ap (λ s. trait_claims s stem) read ∙ e)) h

abbrev Same : Result (List Claim) Stop → Result (List Claim) Stop → Type 0
Same r q = r ≡ q

never : (stop : Stop) (claims : List Claim) → Same (Err stop) (Ok claims) → ⊥
never stop claims e = cc

-- a trait that is wrong has none
pub none_justified : (limit : ℕ) (files : Table) (sources : Sources) (stem : List ℕ) (stop : Stop)
    → sources ≡ read_files files → trait_claims sources stem ≡ Err stop → AreJustified limit files stem
unfolding AreJustified
none_justified limit files sources stem stop read is others e =
    absurd (never stop others (sym is ∙ ap (λ s. trait_claims s stem) read ∙ e))

-- ---- all of them

-- a report is the lines of all traits, and those of scripts without a trait behind them
pub whole_report : (limit : ℕ) (files : Table) (sources : Sources) (none first second : List ReportLine)
    → sources ≡ read_files files → none ≡ [] → first ≡ none ++ source_lines limit files sources
    → second ≡ first ++ stray_lines files → second ≡ report_of limit files
unfolding report_of
whole_report limit files sources none first second read n e f =
    f ∙ ap (λ x. x ++ stray_lines files) (e ∙ ap₂ (λ x s. x ++ source_lines limit files s) n read)

pub all_replayed : (limit : ℕ) (files : Table) (sources : Sources) → sources ≡ read_files files
    → replayed_in limit files sources ≡ replayed_on limit files
unfolding replayed_on
all_replayed limit files sources read = ap (replayed_in limit files) read

-- steps that stand still at the last number, in turn
pub added_up : (m w t a b c : ℕ) → w ≡ min (b - a) m → t ≡ min (c - b) m → a ≤ b → b ≤ c
    → min (w + t) m ≡ min (c - a) m
added_up m w t a b c e f l k = omega (arith, e, f, l, k)

pub le_same : (n m : ℕ) → n ≡ m → n ≤ m
le_same n m e = omega (arith, e)

-- the steps of one trait, by what it claims
pub claimed_steps : (limit : ℕ) (files : Table) (sources : Sources) (name stem : List ℕ) (claims : List Claim)
    → stem ≡ name → trait_claims sources name ≡ Ok claims
    → redo [] (replayed_for_trait limit (script_among files name) name (trait_claims sources name))
    ≡ script_steps (script_among files stem) (map script_duty claims)
claimed_steps limit files sources name stem claims named is =
    ap (λ r. redo [] (replayed_for_trait limit (script_among files name) name r)) is
    ∙ redone_is name (script_among files name) limit (map script_duty claims)
    ∙ ap (λ n. script_steps (script_among files n) (map script_duty claims)) (sym named)
