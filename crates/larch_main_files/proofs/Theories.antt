-- The theory of a trait among files, and what is told of its completion.
use Rattle.std.proofs.Common.{◌≡◌, refl, sym, ap, subst, ◌∙◌, ℕ, suc, ◌+◌, ◌<◌, false, take, length, List, [], ◌∷◌}
use Rattle.std.proofs.Common.{◌++◌, Option, Some, None, Result, Ok, Err}
use Rattle.std.specs.List.{slice_get}
use Rattle.std.specs.Prelude.{is_some}
use Rattle.std.proofs.lemmas.List.{take_more}
use Rattle.std.proofs.lemmas.Option.{get_or_from_slice_get}
use Rattle.larch_base.specs.Answering.{Answers}
use Rattle.larch_base.specs.declared.code.Code.{Code}
use Rattle.larch_base.specs.declared.fault.Fault.{Fault}
use Rattle.larch_base.specs.declared.position.Pos.{Pos}
use Rattle.larch_base_meaning.specs.Steps.{after}
use Rattle.larch_base_meaning.specs.Word.{IsWord}
use Rattle.larch_duties_meaning.specs.SortsMeaningLaws.{StatementSorts, StatementVariables}
use Rattle.larch_derive.specs.Words.{IsWordedTheory}
use Rattle.larch_raw.specs.declared.equation.RawTrait.{RawTrait}
use Rattle.larch_traits_items.specs.declared.refusal.TraitRefusal.{TraitRefusal}
use Rattle.larch_traits_items.specs.declared.refusal.TraitRefusal.TheVariants.{Wrong}
use Rattle.larch_traits_items.proofs.Kept.{after_was}
use Rattle.larch_flat_meaning.specs.Files.{Files, is_there}
use Rattle.larch_flat_meaning.specs.Flat.{FlatTrait, flat, flat_by, flat_file, theory_of}
use Rattle.larch_flat_meaning.specs.Gathered.{Gathered, Marked}
use Rattle.larch_flat_meaning.specs.Laws.{gathered_in}
use Rattle.larch_flat_meaning.specs.Stops.{Stop, Refused}
use Rattle.larch_flat_meaning.proofs.Theory.{flat_theory}
use Rattle.larch_flat_meaning.proofs.Variables.{both_hold, variables_words}
use Rattle.larch_flat_meaning.proofs.Words.{operators_words, statements_words}
use Rattle.larch_flat_sources.specs.Sources.{Table as Sources, files_in, name_at}
use Rattle.larch_prove_invariant.proofs.ReadWords.{theory_in_words}
use Rattle.larch_term.specs.Statement.{IsWellSortedTheory}
use Rattle.larch_term.specs.declared.statement.Theory.{Theory}
use Rattle.larch_traits.specs.Files.{Table}
use Rattle.larch_traits.specs.FlatKnown.{stop_told}
use Rattle.larch_traits.specs.FlatParts.{flat_trait, parts_of}
use Rattle.larch_traits.specs.Reading.{read_files}
use Rattle.larch_traits.proofs.Worded.{read_worded}
use Rattle.larch_main_files.specs.Completion.{completed_over, completion_answer}
use Rattle.larch_main_files.specs.Model.{no_trait}
use Rattle.larch_main_files.specs.Theory.{theory_in, trait_theory}

-- ---- what is kept of flat traits

-- a marked statement stands behind those before it
pub next_taken : (ms : List Marked) (i : ℕ) (m : Marked) → i < length ms → Some m ≡ slice_get ms i
    → take (i + 1) ms ≡ take i ms ++ m ∷ []
next_taken ms i m lt e = take_more ms i m lt ∙ ap (λ y. take i ms ++ y ∷ []) (get_or_from_slice_get ms i m m (sym e))

same_parts : (t : FlatTrait) (g : Gathered) → parts_of (Ok t) ≡ Ok g → gathered_in t ≡ g
same_parts t g e = cc

theory_by : (r : Result FlatTrait Stop) (g : Gathered) (theory : Theory) → parts_of r ≡ Ok g → theory ≡ theory_in g
    → after r (λ flat. Ok (theory_of flat)) ≡ Ok theory
theory_by (Err s) g theory p e = cc
theory_by (Ok flat) g theory p e = ap Ok (ap theory_in (same_parts flat g p) ∙ sym e)

-- the theory of what is kept is that of the trait
pub theory_told : (sources : Sources) (name : List ℕ) (g : Gathered) (theory : Theory)
    → parts_of (flat_trait sources name) ≡ Ok g → theory ≡ theory_in g → trait_theory sources name ≡ Ok theory
theory_told sources name g theory p e = theory_by (flat_trait sources name) g theory p e

-- ---- the theory of a trait among files is one, and it is in words

abbrev SameTheories : Result Theory Stop → Result Theory Stop → Type 0
SameTheories found other = found ≡ other

module _ (files : Table) (stem : List ℕ) (theory : Theory) (is : trait_theory (read_files files) stem ≡ Ok theory) where
  abbrev sources_read : Sources
  sources_read = read_files files

  same_theory : (one other : Theory) → SameTheories (Ok one) (Ok other) → one ≡ other
  same_theory one other e = cc

  pub theory_sorted : IsWellSortedTheory theory
  theory_sorted =
      let t = after_was (flat_trait sources_read stem) (λ flat. Ok (theory_of flat)) theory is in
      subst IsWellSortedTheory (same_theory (theory_of t.0) theory t.2)
      (flat_theory (files_in sources_read) (read_worded files) (length sources_read) stem t.0 t.1).well_sorted

  pub theory_worded : IsWordedTheory theory
  theory_worded =
      let t = after_was (flat_trait sources_read stem) (λ flat. Ok (theory_of flat)) theory is in
      subst IsWordedTheory (same_theory (theory_of t.0) theory t.2)
      (theory_in_words (theory_of t.0)
      (operators_words (files_in sources_read) (read_worded files) (length sources_read) stem t.0 t.1)
      (both_hold (StatementSorts IsWord) (StatementVariables IsWord) (theory_of t.0).statements
      (statements_words (files_in sources_read) (read_worded files) (length sources_read) stem t.0 t.1)
      (variables_words (files_in sources_read) (read_worded files) (length sources_read) stem t.0 t.1)))

-- ---- what is told of the completion

-- a trait whose file isn't there has no theory
absent_by : (depth : ℕ) (files : Files) (name : List ℕ) (next : List ℕ → Result FlatTrait Stop) (limit : ℕ)
    → is_some (files name) ≡ false
    → completed_over limit (after (flat_file depth files name next (files name)) (λ flat. Ok (theory_of flat)))
    ≡ no_trait
absent_by depth files name next limit e = by_file (files name) e
  where
    by_file : (file : Option (Result RawTrait Fault)) → is_some file ≡ false
        → completed_over limit (after (flat_file depth files name next file) (λ flat. Ok (theory_of flat))) ≡ no_trait
    by_file None e = refl
    by_file (Some file) e = cc

absent_theory : (sources : Sources) (name : List ℕ) (limit : ℕ) → is_there (files_in sources) name ≡ false
    → completed_over limit (trait_theory sources name) ≡ no_trait
unfolding flat
absent_theory sources name limit e =
    absent_by (suc (length sources)) (files_in sources) name
    (flat_by (length sources) (suc (length sources)) (files_in sources)) limit e

-- no file has the trait's name
pub completed_absent : (stem : List ℕ) (limit : ℕ) (files : Table) (sources : Sources) (place : Option ℕ)
    → sources ≡ read_files files → is_some place ≡ is_there (files_in sources) stem → place ≡ None
    → no_trait ≡ completion_answer stem limit files
completed_absent stem limit files sources place read there none =
    sym (absent_theory sources stem limit (sym there ∙ ap is_some none))
    ∙ ap (λ s. completed_over limit (trait_theory s stem)) read

module _ (stem : List ℕ) (limit : ℕ) (files : Table) (sources : Sources) (number : ℕ)
    (read : sources ≡ read_files files) (name : name_at sources number ≡ stem) where
  theory_named : trait_theory sources (name_at sources number) ≡ trait_theory (read_files files) stem
  theory_named = ap (trait_theory sources) name ∙ ap (λ s. trait_theory s stem) read

  -- something is wrong with the trait
  pub completed_refused : (result : Result Theory TraitRefusal) (refusal : TraitRefusal) (pos : Pos) (code : Code)
      → result ≡ Err refusal → refusal ≡ Wrong pos code
      → Answers stop_told result (trait_theory sources (name_at sources number))
      → no_trait ≡ completion_answer stem limit files
  completed_refused result refusal pos code is wrong answers =
      let says : Answers stop_told (Err (Wrong pos code)) (trait_theory sources (name_at sources number)) =
      subst (λ r. Answers stop_told (Err r) (trait_theory sources (name_at sources number))) wrong
      (subst (λ r. Answers stop_told r (trait_theory sources (name_at sources number))) is answers) in
      let stopped : trait_theory sources (name_at sources number)
      ≡ Err (Refused (record { pos = pos; code = code })) = says in
      ap (completed_over limit) (sym stopped ∙ theory_named)

  -- the trait has a theory
  pub theory_is : (theory : Theory) → trait_theory sources (name_at sources number) ≡ Ok theory
      → trait_theory (read_files files) stem ≡ Ok theory
  theory_is theory is = sym theory_named ∙ is

  pub completed_theory : (theory : Theory) → trait_theory sources (name_at sources number) ≡ Ok theory
      → completed_over limit (Ok theory) ≡ completion_answer stem limit files
  completed_theory theory is = ap (completed_over limit) (sym (theory_is theory is))
