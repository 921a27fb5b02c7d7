-- Lines that say that a claim fails.
use Rattle.std.specs.Prelude.{◌≡◌, ℕ, suc, false, List, ◌++◌, codes, slice_get, Contains, None, Some}
use Rattle.larch_base.specs.Label.{label_text}
use Rattle.larch_base.specs.declared.label.Label.{Label}
use Rattle.larch_certificate_text.specs.ListText.{split_at}
use Rattle.larch_term.specs.declared.statement.Statement.{Statement}
use Rattle.larch_term.specs.declared.statement.Theory.{Theory}
use Rattle.larch_models_meaning.specs.Computed.{holds}
use Rattle.larch_models_meaning.specs.FiniteModel.{first_failing, interpretation_of}
use Rattle.larch_models_meaning.specs.declared.finite_model.FiniteModel.{FiniteModel}
use Rattle.larch_models_answer.specs.Judgements.{label_at}
use Rattle.larch_models_answer.specs.declared.claim.Kind.{Kind}
use Rattle.larch_models_answer.specs.declared.claim.Kind.TheVariants.{Assumed, Implied}

-- a text has this line, which is written without its newline
abbrev pub HasLine : List ℕ → List ℕ → Type 0
HasLine text line = Contains (split_at 10 text) line

-- the line that says that the claim with a label fails
abbrev pub failing_line : Label → List ℕ
failing_line label = label_text label ++ codes " fails"

-- the claims of a kind
abbrev pub claims_of : Kind → List Statement → List Statement → List Statement
claims_of Assumed assumed implied = assumed
claims_of Implied assumed implied = implied

-- a claim with this label, numbered among those of its kind, doesn't hold in some model of the theory
pub record FailsIn (t : Theory) (assumed implied : List Statement) (label : Label) : Type 0 where
  pub model : FiniteModel
  pub is_model : first_failing (interpretation_of model) t.statements ≡ None
  pub kind : Kind
  pub place : ℕ
  pub claim : Statement
  pub is_claim : slice_get (claims_of kind assumed implied) place ≡ Some claim
  pub is_label : label_text (label_at kind (suc place)) ≡ label_text label
  pub fails : holds (interpretation_of model) claim ≡ false
