-- What connectives come to by rows.
use Rattle.std.specs.Prelude.{◌≡◌, ◌+◌, ◌++◌, ℕ, List, ◌∷◌, None, Some, codes, length}
use Rattle.larch_term.specs.BuiltIn.{bool_sort}
use Rattle.larch_term.specs.Operator.{PlainOperator}
use Rattle.larch_term.specs.Substitution.{instance_of}
use Rattle.larch_term.specs.Tree.{Tree, app, forest_of}
use Rattle.larch_term.specs.declared.statement.Statement.TheVariants.{Equation}
use Rattle.larch_calculus.specs.Formula.{apply_two}
use Rattle.larch_calculus.specs.Generation.{only}
use Rattle.larch_derive.specs.VerifyMeaningRules.{row_says}
use Rattle.larch_derive.specs.Predicates.{Known, HasEquation}
use Rattle.larch_derive.specs.declared.builder.Builder.{Builder}
use Rattle.larch_methods.specs.Methods.{IsKnownFormula}

-- a term has two arguments, which are these
pub record HasArguments (whole first second : Tree) : Type 0 where
  pub operator : PlainOperator
  pub whole_is : whole ≡ apply_two operator first second

-- a side of a row of truth values with a formula in the place of its variable
abbrev pub of_formula : Tree → Tree → Tree
of_formula t u = instance_of (only (codes "x") bool_sort t) u

-- a term, the argument with a number being as a line says, is the left side of a row with a formula in the place of the
-- row's variable, and another term is the row's right side
pub record IsSettledBy (b : Builder) (whole : Tree) (number line row : ℕ) (formula value : Tree) : Type 0 where
  pub operator : PlainOperator
  pub before : List Tree
  pub argument : Tree
  pub behind : List Tree
  pub now : Tree
  pub left : Tree
  pub right : Tree
  pub whole_is : whole ≡ app operator (forest_of (before ++ argument ∷ behind))
  pub number_is : number ≡ length before + 1
  pub says : HasEquation b line argument now
  pub row_is : row_says row None ≡ Some (Equation left right)
  pub left_is : of_formula formula left ≡ app operator (forest_of (before ++ now ∷ behind))
  pub right_is : of_formula formula right ≡ value
  pub known : Known b whole
  pub formula_known : IsKnownFormula b formula
