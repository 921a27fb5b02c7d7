-- A text that is tried as a model of a trait.
use Rattle.std.proofs.Common.{◌≡◌, refl, sym, ap, subst, ◌∙◌, ℕ, suc, false, length, List, Option, Some}
use Rattle.std.proofs.Common.{None, Result, Ok, Err}
use Rattle.std.specs.Prelude.{is_some}
use Rattle.larch_base.specs.Answering.{Answers}
use Rattle.larch_base.specs.declared.code.Code.{Code}
use Rattle.larch_base.specs.declared.fault.Fault.{Fault}
use Rattle.larch_base.specs.declared.position.Pos.{Pos}
use Rattle.larch_raw.specs.declared.equation.RawTrait.{RawTrait}
use Rattle.larch_base_meaning.specs.Steps.{after}
use Rattle.larch_traits_items.specs.declared.refusal.TraitRefusal.{TraitRefusal}
use Rattle.larch_traits_items.specs.declared.refusal.TraitRefusal.TheVariants.{Wrong}
use Rattle.larch_flat_meaning.specs.Files.{Files, is_there}
use Rattle.larch_flat_meaning.specs.Flat.{FlatTrait, flat, flat_by, flat_file}
use Rattle.larch_flat_meaning.specs.Stops.{Stop, Refused}
use Rattle.larch_traits.specs.FlatKnown.{stop_told}
use Rattle.larch_flat_sources.specs.Sources.{Table as Sources, files_in, name_at}
use Rattle.larch_session_meaning.specs.DutiesOwn.{own_claims, trait_own_claims}
use Rattle.larch_session_meaning.specs.DutiesTraitDuties.{claims_of}
use Rattle.larch_session_meaning.specs.DutiesOwnOwnClaims.{OwnClaims}
use Rattle.larch_traits.specs.Reading.{read_files}
use Rattle.larch_main_files.specs.Model.{no_trait, trial_answer, tried_over}
use Rattle.larch_main_files.specs.declared.gather.Evidence.{Evidence}

-- a trait whose file isn't there claims nothing
absent_by : (limit : ℕ) (files : Files) (name : List ℕ) (next : List ℕ → Result FlatTrait Stop) (text : List ℕ)
    (claims : FlatTrait → Result OwnClaims Stop) → is_some (files name) ≡ false
    → tried_over text (after (flat_file limit files name next (files name)) claims) ≡ no_trait
absent_by limit files name next text claims e = by_file (files name) e
  where
    by_file : (file : Option (Result RawTrait Fault)) → is_some file ≡ false
        → tried_over text (after (flat_file limit files name next file) claims) ≡ no_trait
    by_file None e = refl
    by_file (Some file) e = cc

absent_claims : (sources : Sources) (name text : List ℕ) → is_there (files_in sources) name ≡ false
    → tried_over text (trait_own_claims sources name) ≡ no_trait
unfolding flat
absent_claims sources name text e =
    absent_by (suc (length sources)) (files_in sources) name
    (flat_by (length sources) (suc (length sources)) (files_in sources)) text
    (λ flat. after (claims_of sources flat) (λ d. Ok (own_claims flat d))) e

-- no file has the trait's name
pub tried_absent : (e : Evidence) (stem : List ℕ) (sources : Sources) (place : Option ℕ)
    → sources ≡ read_files e.files → is_some place ≡ is_there (files_in sources) stem → place ≡ None
    → no_trait ≡ trial_answer stem e
tried_absent e stem sources place read there none =
    sym (absent_claims sources stem e.text (sym there ∙ ap is_some none))
    ∙ ap (λ s. tried_over e.text (trait_own_claims s stem)) read

-- something is wrong with the trait
pub tried_refused : (e : Evidence) (stem : List ℕ) (sources : Sources) (number : ℕ)
    (result : Result OwnClaims TraitRefusal) (refusal : TraitRefusal) (pos : Pos) (code : Code)
    → sources ≡ read_files e.files → name_at sources number ≡ stem → result ≡ Err refusal → refusal ≡ Wrong pos code
    → Answers stop_told result (trait_own_claims sources (name_at sources number))
    → no_trait ≡ trial_answer stem e
tried_refused e stem sources number result refusal pos code read name is wrong answers =
    let says : Answers stop_told (Err (Wrong pos code)) (trait_own_claims sources (name_at sources number)) =
    subst (λ r. Answers stop_told (Err r) (trait_own_claims sources (name_at sources number))) wrong
    (subst (λ r. Answers stop_told r (trait_own_claims sources (name_at sources number))) is answers) in
    let stopped : trait_own_claims sources (name_at sources number)
    ≡ Err (Refused (record { pos = pos; code = code })) = says in
    ap (tried_over e.text) (sym stopped)
    ∙ ap (λ n. tried_over e.text (trait_own_claims sources n)) name
    ∙ ap (λ s. tried_over e.text (trait_own_claims s stem)) read

-- the trait claims something
pub tried_claims : (e : Evidence) (stem : List ℕ) (sources : Sources) (number : ℕ) (own : OwnClaims) (text : List ℕ)
    → sources ≡ read_files e.files → name_at sources number ≡ stem
    → trait_own_claims sources (name_at sources number) ≡ Ok own → text ≡ e.text
    → tried_over text (Ok own) ≡ trial_answer stem e
tried_claims e stem sources number own text read name is same =
    ap (λ t. tried_over t (Ok own)) same ∙ ap (tried_over e.text) (sym is)
    ∙ ap (λ n. tried_over e.text (trait_own_claims sources n)) name
    ∙ ap (λ s. tried_over e.text (trait_own_claims s stem)) read
