-- What is supposed where a generation clause is used or shown.
use Rattle.std.specs.Prelude.{ℕ, suc, if◌then◌else◌, List, [], ◌∷◌, ◌++◌, map, bytes_eq, codes}
use Rattle.std.specs.Fmt.{decimal}
use Rattle.larch_term.specs.Operator.{PlainOperator}
use Rattle.larch_term.specs.Tree.{Tree, Forest, var, app, none, more}
use Rattle.larch_term.specs.Substitution.{instance_of}
use Rattle.larch_term.specs.declared.substitution.Entry.{Entry}
use Rattle.larch_term.specs.declared.variable.Variable.{Variable}
use Rattle.larch_term.specs.declared.statement.Statement.{Statement}
use Rattle.larch_term.specs.declared.statement.Statement.TheVariants.{Equation}
use Rattle.larch_calculus.specs.Formula.{constant, apply_one, conjunction, implication}
use Rattle.larch_term.specs.Truth.{truth}

-- x1, x2, ..
abbrev pub place_name : ℕ → List ℕ
place_name k = codes "x" ++ decimal k

-- variables of these sorts, named by their places, the first of which has a number
abbrev pub variables_from : ℕ → List (List ℕ) → List Variable
variables_from k [] = []
variables_from k (r ∷ rs) = record { name = place_name k; sort = r } ∷ variables_from (suc k) rs

-- variables as arguments
abbrev pub variable_terms : List Variable → Forest
variable_terms [] = none
variable_terms (v ∷ vs) = more (var v.name v.sort) (variable_terms vs)

-- the predicate of each variable of the sort
abbrev pub holding : PlainOperator → List ℕ → List Variable → List Tree
holding p s [] = []
holding p s (v ∷ vs) =
    if bytes_eq v.sort s then apply_one p (var v.name v.sort) ∷ holding p s vs else holding p s vs

-- a term and further ones, joined from the left
abbrev pub conjunction_from : Tree → List Tree → Tree
conjunction_from t [] = t
conjunction_from t (u ∷ us) = conjunction_from (conjunction t u) us

-- what follows from the conjunction of terms; alone where there are none
abbrev pub implied_by : List Tree → Tree → Tree
implied_by [] t = t
implied_by (u ∷ us) t = implication (conjunction_from u us) t

-- a predicate on the sort holds of what the generator makes, if it holds of the arguments of the sort
abbrev pub generation_formula : PlainOperator → List ℕ → PlainOperator → Tree
generation_formula p s f =
    implied_by (holding p s (variables_from 1 f.domain))
    (apply_one p (app f (variable_terms (variables_from 1 f.domain))))

-- the hypotheses of a generation clause, one for each generator
abbrev pub generation_hypotheses : PlainOperator → List ℕ → List PlainOperator → List Statement
generation_hypotheses p s fs = map (λ f. Equation (generation_formula p s f) truth) fs

-- the substitution of one variable
abbrev pub only : List ℕ → List ℕ → Tree → List Entry
only x s t = record { name = x; sort = s; term = t } ∷ []

-- constants as arguments
abbrev pub constant_terms : List PlainOperator → Forest
constant_terms [] = none
constant_terms (c ∷ cs) = more (constant c) (constant_terms cs)

-- the equation with a term for the variable
abbrev pub equation_at : List ℕ → List ℕ → Tree → Tree → Tree → Statement
equation_at x s l r t = Equation (instance_of (only x s t) l) (instance_of (only x s t) r)

-- the hypotheses of an induction: the equation with each constant of the variable's sort for the variable
abbrev pub induction_hypotheses : List ℕ → List ℕ → Tree → Tree → List PlainOperator → List Statement
induction_hypotheses x s l r [] = []
induction_hypotheses x s l r (c ∷ cs) =
    if bytes_eq c.range s then equation_at x s l r (constant c) ∷ induction_hypotheses x s l r cs
    else induction_hypotheses x s l r cs
