-- What was verified fails in no model.
use Rattle.std.proofs.Common.{◌≡◌, refl, sym, ap, subst, ◌∙◌, ℕ, suc, List, Option, Some, Result, Ok, Err}
use Rattle.std.specs.Prelude.{codes, option_map}
use Rattle.larch_base.proofs.Options.{some_inj}
use Rattle.larch_base.specs.Label.{label_text}
use Rattle.larch_base.specs.declared.label.Label.{Label}
use Rattle.larch_calculus.specs.Derivable.{Derivable}
use Rattle.larch_term.specs.Statement.{IsWellSortedTheory}
use Rattle.larch_term.specs.declared.statement.Statement.{Statement}
use Rattle.larch_term.specs.declared.statement.Theory.{Theory}
use Rattle.larch_traits_items.proofs.Kept.{ok_inj}
use Rattle.larch_flat_meaning.specs.Stops.{Stop}
use Rattle.larch_traits.specs.Files.{Table}
use Rattle.larch_traits.specs.Reading.{read_files}
use Rattle.larch_duties_meaning.specs.Duties.{Duties, Duty, all_duties}
use Rattle.larch_session_meaning.specs.DutiesOwn.{IsDutyOf, trait_own_claims}
use Rattle.larch_session_meaning.specs.DutiesTraitDuties.{trait_duties}
use Rattle.larch_session_meaning.specs.DutiesOwnOwnClaims.{OwnClaims}
use Rattle.larch_session_meaning.proofs.DutiesOwnDuties.{assumed_duty, implied_duty}
use Rattle.larch_models_answer.specs.Failing.{FailsIn, HasLine, failing_line}
use Rattle.larch_models_answer.specs.Judgements.{label_at}
use Rattle.larch_models_answer.proofs.Failing.{failing_underivable, model_failing, no_failing, of_failing, words_lack}
use Rattle.larch_main_files.specs.Model.{trial_answer, tried_over}
use Rattle.larch_main_files.specs.Verify.{duty_among, duty_in, duty_with}

abbrev parts : Duty → Theory × Statement
parts d = (d.theory, d.statement)

abbrev SameParts : Option (Theory × Statement) → Option (Theory × Statement) → Type 0
SameParts found other = found ≡ other

parts_same : (p q : Theory × Statement) → SameParts (Some p) (Some q) → p ≡ q
parts_same p q e = some_inj e

pub duty_from : (label : List ℕ) (r : Result Duties Stop) (d : Duty) → duty_among label r ≡ Some d
    → (ds : Duties) × (r ≡ Ok ds) × (duty_with label (all_duties ds) ≡ Some d)
duty_from label (Ok ds) d e = (ds, refl, e)
duty_from label (Err stop) d e = cc

-- the duty of a claim is the one that was found by a label with the same text
claim_is : (files : Table) (stem : List ℕ) (label other : Label) (d : Duty) (own : OwnClaims) (s : Statement)
    → duty_in files stem label ≡ Some d → label_text other ≡ label_text label
    → IsDutyOf (read_files files) stem own other s → parts d ≡ (own.theory, s)
claim_is files stem label other d own s found same (ds, are, is) =
    let a = duty_from (label_text label) (trait_duties (read_files files) stem) d found in
    let one : a.0 ≡ ds = ok_inj (sym a.1 ∙ are) in
    parts_same (parts d) (own.theory, s)
    (ap (option_map parts) (sym a.2)
    ∙ ap (λ (x : Duties). option_map parts (duty_with (label_text label) (all_duties x))) one
    ∙ ap (λ text. option_map parts (duty_with text (all_duties ds))) (sym same)
    ∙ is)

-- a claim that fails in a model has a duty
failing_duty : (files : Table) (stem : List ℕ) (own : OwnClaims) → trait_own_claims (read_files files) stem ≡ Ok own
    → (label : Label) (f : FailsIn own.theory own.assumed own.implied label)
    → IsDutyOf (read_files files) stem own (label_at f.kind (suc f.place)) f.claim
failing_duty files stem own is label f =
    of_failing own.theory own.assumed own.implied label (λ l s. IsDutyOf (read_files files) stem own l s)
    (assumed_duty (read_files files) stem own is) (implied_duty (read_files files) stem own is) f

module _ (files : Table) (stem : List ℕ) (label : Label) (d : Duty) (found : duty_in files stem label ≡ Some d)
    (sorted : IsWellSortedTheory d.theory) (derivable : Derivable d.theory d.statement) where
  by_claims : (text : List ℕ) (r : Result OwnClaims Stop) → trait_own_claims (read_files files) stem ≡ r
      → HasLine (tried_over text r).text (failing_line label) → ⊥
  by_claims text (Err stop) is h =
      no_failing label (codes "no trait") (words_lack (codes "no trait") refl) refl h
  by_claims text (Ok own) is h =
      let f = model_failing own.theory own.assumed own.implied label text h in
      let same : parts d ≡ (own.theory, f.claim) =
      claim_is files stem label (label_at f.kind (suc f.place)) d own f.claim found f.is_label
      (failing_duty files stem own is label f) in
      failing_underivable own.theory own.assumed own.implied label f
      (subst (λ (p : Theory × Statement). IsWellSortedTheory p.0) same sorted)
      (subst (λ (p : Theory × Statement). Derivable p.0 p.1) same derivable)

  -- a duty that is derivable from a well sorted theory fails in no text
  pub fails_in_none : (text : List ℕ)
      → HasLine (trial_answer stem (record { text = text; files = files })).text (failing_line label) → ⊥
  fails_in_none text h = by_claims text (trait_own_claims (read_files files) stem) refl h
