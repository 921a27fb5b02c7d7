-- What follows from an equation by the deduction rows.
use Rattle.std.specs.Prelude.{◌≡◌, ◌-◌, ℕ, Bool, true, false, not, List, [], ◌∷◌, map, get_or, length, Some}
use Rattle.larch_base.specs.ByNumber.{numbered}
use Rattle.larch_term.specs.BuiltIn.{built_in}
use Rattle.larch_term.specs.Operator.{PlainOperator}
use Rattle.larch_term.specs.Substitution.{substituted_statement}
use Rattle.larch_term.specs.Tree.{Tree, Forest, var, app, none, more}
use Rattle.larch_term.specs.Truth.{truth}
use Rattle.larch_term.specs.declared.built_in.BuiltIn.{BuiltIn}
use Rattle.larch_term.specs.declared.built_in.BuiltIn.TheVariants.{Not, And, Or, Implies, Iff, Equal}
use Rattle.larch_term.specs.declared.statement.Statement.{Statement}
use Rattle.larch_term.specs.declared.statement.Statement.TheVariants.{Equation}
use Rattle.larch_term.specs.declared.substitution.Entry.{Entry}
use Rattle.larch_derive_lines.specs.CalculusFormula.{falsity}
use Rattle.larch_derive_lines.specs.TablesRow.{PlainRow}
use Rattle.larch_derive_lines.specs.TablesTables.{deduction_rows}
use Rattle.larch_derive_formulas.specs.declared.consequences.Consequences.{Consequences}
use Rattle.larch_derive_formulas.specs.declared.consequences.Consequences.TheVariants.{One, Both}
use Rattle.larch_derive_formulas.specs.declared.consequences.Deduction.{Deduction}
use Rattle.larch_derive_formulas.specs.declared.consequences.Deduction.TheVariants.{Conjunction, Disjunction, Negation}
use Rattle.larch_derive_formulas.specs.declared.consequences.Deduction.TheVariants.{Implication, Equality, Equivalence}

-- Terms in the places of its variables make the equation of the deduction row with a number this statement, and the
-- row's consequences those.
pub record Follows (n : ℕ) (given : Statement) (found : List Statement) : Type 0 where
  pub sort : List ℕ
  pub by : List Entry
  pub row : PlainRow
  pub has_number : numbered (deduction_rows sort) n ≡ Some row
  pub equation : substituted_statement by row.given ≡ given
  pub consequences : map (substituted_statement by) row.consequences ≡ found

-- the lines of consequences, in the row's order
abbrev pub lines_of : Consequences → List ℕ
lines_of (One line) = line ∷ []
lines_of (Both lines) = lines.first ∷ lines.second ∷ []

-- the word at the head of the left side of a row's equation
abbrev pub head_of : Deduction → BuiltIn
head_of Conjunction = And
head_of Disjunction = Or
head_of (Negation v) = Not
head_of Implication = Implies
head_of Equality = Equal
head_of Equivalence = Iff

-- whether its right side is true; else it is false
abbrev pub value_of : Deduction → Bool
value_of Conjunction = true
value_of Disjunction = false
value_of (Negation v) = v
value_of Implication = false
value_of Equality = true
value_of Equivalence = true

-- the constant true, or false
abbrev pub truth_value : Bool → Tree
truth_value true = truth
truth_value false = falsity

-- the arguments on its left side: two terms, or the first of them
abbrev pub arguments_of : Deduction → Tree → Tree → Forest
arguments_of Conjunction t u = more t (more u none)
arguments_of Disjunction t u = more t (more u none)
arguments_of (Negation v) t u = more t none
arguments_of Implication t u = more t (more u none)
arguments_of Equality t u = more t (more u none)
arguments_of Equivalence t u = more t (more u none)

-- its left side, where the word stands at a sort
abbrev pub deduction_left : Deduction → List ℕ → Tree → Tree → Tree
deduction_left d s t u = app (built_in (head_of d) s) (arguments_of d t u)

-- a row's equation, with terms for its variables
abbrev pub given_by : Deduction → List ℕ → Tree → Tree → Statement
given_by d s t u = Equation (deduction_left d s t u) (truth_value (value_of d))

-- a row's consequences, with terms for its variables
abbrev pub found_by : Deduction → Tree → Tree → List Statement
found_by Conjunction t u = Equation t truth ∷ Equation u truth ∷ []
found_by Disjunction t u = Equation t falsity ∷ Equation u falsity ∷ []
found_by (Negation v) t u = Equation t (truth_value (not v)) ∷ []
found_by Implication t u = Equation t truth ∷ Equation u falsity ∷ []
found_by Equality t u = Equation t u ∷ []
found_by Equivalence t u = Equation t u ∷ []

-- the last sort of an operator's domain
abbrev pub last_sort : PlainOperator → List ℕ
last_sort f = get_or f.domain (length f.domain - 1) []

-- the sort at which a term's head stands
abbrev pub sort_within : Tree → List ℕ
sort_within (var n s) = s
sort_within (app f ts) = last_sort f
