-- The operators that shorthands make, and terms of them.
use Rattle.std.specs.Prelude.{ℕ, List}
use Rattle.larch_term.specs.Operator.{PlainOperator, plain}
use Rattle.larch_term.specs.Tree.{Tree, app, none, more}

-- the operator of this name, domain and range
abbrev pub operator : List ℕ → List (List ℕ) → List ℕ → PlainOperator
operator name domain range = record { name = plain name; domain = domain; range = range }

-- a constant as a term
abbrev pub constant : PlainOperator → Tree
constant f = app f none

-- an operator of one term
abbrev pub on : PlainOperator → Tree → Tree
on f t = app f (more t none)

-- an operator of two terms
abbrev pub on_two : PlainOperator → Tree → Tree → Tree
on_two f t u = app f (more t (more u none))
