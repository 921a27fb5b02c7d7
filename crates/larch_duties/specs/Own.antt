-- What a trait claims over its own theory.
use Rattle.std.specs.Prelude.{◌≡◌, ℕ, Bool, true, false, List, bytes_eq, map, filter, find, option_map, Some, Result}
use Rattle.std.specs.Prelude.{Ok}
use Rattle.larch_base.specs.Label.{label_text}
use Rattle.larch_base.specs.declared.label.Label.{Label}
use Rattle.larch_base.specs.declared.label.Label.TheVariants.{Assume, Imply, Convert}
use Rattle.larch_term.specs.declared.statement.Statement.{Statement}
use Rattle.larch_term.specs.declared.statement.Theory.{Theory}
use Rattle.larch_base_meaning.specs.Steps.{after}
use Rattle.larch_flat_meaning.specs.Flat.{FlatTrait, theory_of}
use Rattle.larch_flat_meaning.specs.Stops.{Stop}
use Rattle.larch_duties_meaning.specs.Duties.{Duties, Duty, all_duties}
use Rattle.larch_flat.specs.FlatSourcesSources.{Table}
use Rattle.larch_flat.specs.Parts.{flat_trait}
use Rattle.larch_duties.specs.TraitDuties.{claims_of, trait_duties}
use Rattle.larch_duties.specs.declared.own.OwnClaims.{OwnClaims}

-- what has this label is to be discharged
abbrev pub is_assumed : Label → Bool
is_assumed (Assume n) = true
is_assumed (Imply n) = false
is_assumed (Convert n) = false

-- what has this label is implied
abbrev pub is_implied : Label → Bool
is_implied (Assume n) = false
is_implied (Imply n) = true
is_implied (Convert n) = false

-- the statements of the duties with labels of a kind, in order
abbrev pub statements_with : (Label → Bool) → List Duty → List Statement
statements_with kind ds = map (λ d. d.statement) (filter (λ d. kind d.label) ds)

-- the theory of a flat trait with these duties, what is to be discharged over it and what is implied
abbrev pub own_claims : FlatTrait → Duties → OwnClaims
own_claims flat d =
    record {
      theory = theory_of flat;
      assumed = statements_with is_assumed d.own;
      implied = statements_with is_implied d.own;
    }

-- the same of the trait of a name, or what is wrong first
abbrev pub trait_own_claims : Table → List ℕ → Result OwnClaims Stop
trait_own_claims sources name =
    after (flat_trait sources name) (λ flat. after (claims_of sources flat) (λ d. Ok (own_claims flat d)))

-- the theory and the statement of the first duty with this label are those of a claim
abbrev pub IsDutyOf : Table → List ℕ → OwnClaims → Label → Statement → Type 0
IsDutyOf sources name own label s =
    (d : Duties) × (trait_duties sources name ≡ Ok d)
    × (option_map {U = Theory × Statement} (λ e. (e.theory, e.statement))
    (find (λ e. bytes_eq (label_text label) (label_text e.label)) (all_duties d)) ≡ Some (own.theory, s))
