-- The deduction rows with terms for their variables: by which equation something follows, and what.
use Rattle.std.specs.Prelude.{◌==◌, ℕ, Bool, true, false, not, List, [], ◌∷◌}
use Rattle.std.specs.Prelude.{if◌then◌else◌}
use Rattle.larch_prove_invariant.specs.CalculusFormula.{conjunction, disjunction, equality}
use Rattle.larch_prove_invariant.specs.CalculusFormula.{equivalence, falsity, implication}
use Rattle.larch_prove_invariant.specs.CalculusFormula.{negation}
use Rattle.larch_term.specs.Tree.{Tree}
use Rattle.larch_term.specs.Truth.{truth}
use Rattle.larch_term.specs.declared.statement.Statement.{Statement}
use Rattle.larch_term.specs.declared.statement.Statement.TheVariants.{Equation}

-- what the left side is; of a negation, whether it is true
pub data Deduction : Type 0 where
  Conjunction : Deduction
  Disjunction : Deduction
  Negation : Bool → Deduction
  Implication : Deduction
  Equality : Deduction
  Equivalence : Deduction

-- in the order in which they are tried
abbrev pub deductions : List Deduction
deductions = Conjunction ∷ Disjunction ∷ Negation true ∷ Negation false ∷ Implication ∷ Equality ∷ Equivalence ∷ []

-- the constant true, or false
abbrev pub value_term : Bool → Tree
value_term v = if v then truth else falsity

-- the left side, of two terms, and at a sort where it has one
abbrev pub left_by : Deduction → List ℕ → Tree → Tree → Tree
left_by Conjunction s t u = conjunction t u
left_by Disjunction s t u = disjunction t u
left_by (Negation v) s t u = negation t
left_by Implication s t u = implication t u
left_by Equality s t u = equality s t u
left_by Equivalence s t u = equivalence t u

-- the right side
abbrev pub right_by : Deduction → Tree
right_by Conjunction = truth
right_by Disjunction = falsity
right_by (Negation v) = value_term v
right_by Implication = falsity
right_by Equality = truth
right_by Equivalence = truth

-- what follows
abbrev pub found_by : Deduction → Tree → Tree → List Statement
found_by Conjunction t u = Equation t truth ∷ Equation u truth ∷ []
found_by Disjunction t u = Equation t falsity ∷ Equation u falsity ∷ []
found_by (Negation v) t u = Equation t (value_term (not v)) ∷ []
found_by Implication t u = Equation t truth ∷ Equation u falsity ∷ []
found_by Equality t u = Equation t u ∷ []
found_by Equivalence t u = Equation t u ∷ []

-- what the only term equals by the row with a number, the second one being given
abbrev pub only_right : ℕ → Tree → Tree
only_right n u = if n == 3 then falsity else if n == 4 then truth else u

-- what each of two terms equals
abbrev pub first_right : ℕ → Tree
first_right n = if n == 2 then falsity else truth

abbrev pub second_right : ℕ → Tree
second_right n = if n == 1 then truth else falsity
