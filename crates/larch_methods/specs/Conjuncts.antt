-- What the conjuncts of a term have to show.
use Rattle.std.specs.Prelude.{◌≡◌, ℕ, Bool, false, List, ◌++◌}
use Rattle.std.specs.List.{AllZip}
use Rattle.larch_term.specs.BuiltIn.{bool_sort, built_in}
use Rattle.larch_term.specs.Equality.{same_operator}
use Rattle.larch_term.specs.Operator.{PlainOperator}
use Rattle.larch_term.specs.Tree.{Tree, var, app}
use Rattle.larch_term.specs.Truth.{truth}
use Rattle.larch_term.specs.declared.built_in.BuiltIn.TheVariants.{And}
use Rattle.larch_derive.specs.Predicates.{HasEquation}
use Rattle.larch_derive.specs.declared.builder.Builder.{Builder}
use Rattle.larch_prove_plans.specs.ProveMeaningPlans.{conjuncts}
use Rattle.larch_methods.specs.Methods.{IsKnownFormula}

-- lines say that terms are true, one line for each
abbrev pub AreTrue : Builder → List Tree → List ℕ → Type 0
AreTrue b ts ns = AllZip (λ t n. HasEquation b n t truth) ts ns

-- whether an operator is the head of a term
abbrev pub is_headed_by : PlainOperator → Tree → Bool
is_headed_by f (var n s) = false
is_headed_by f (app g ts) = same_operator f g

-- the first lines of a list say that the conjuncts of a term are true, and others are behind them
pub record HasConjuncts (b : Builder) (operator : PlainOperator) (g : Tree) (lines those behind : List ℕ) : Type 0 where
  pub operator_is : operator ≡ built_in And bool_sort
  pub lines_are : lines ≡ those ++ behind
  pub shown : AreTrue b (conjuncts g) those
  pub formula : IsKnownFormula b g
