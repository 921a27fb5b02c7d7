-- Terms with built-in operators at their heads, and the formula of an equation.
use Rattle.std.specs.Prelude.{ℕ, if◌then◌else◌, List, bytes_eq}
use Rattle.larch_term.specs.Operator.{PlainOperator}
use Rattle.larch_term.specs.Tree.{Tree, app, none, more}
use Rattle.larch_term.specs.BuiltIn.{bool_sort, built_in}
use Rattle.larch_term.specs.Sorts.{sort_of}
use Rattle.larch_term.specs.Truth.{is_truth}
use Rattle.larch_term.specs.declared.built_in.BuiltIn.TheVariants.{False, Not, And, Or, Implies, Iff, Equal, Unequal}
use Rattle.larch_term.specs.declared.built_in.BuiltIn.TheVariants.{If}

-- an operator without arguments
abbrev pub constant : PlainOperator → Tree
constant c = app c none

-- an operator of one argument
abbrev pub apply_one : PlainOperator → Tree → Tree
apply_one f t = app f (more t none)

-- an operator of two arguments
abbrev pub apply_two : PlainOperator → Tree → Tree → Tree
apply_two f t u = app f (more t (more u none))

abbrev pub falsity : Tree
falsity = constant (built_in False bool_sort)

abbrev pub negation : Tree → Tree
negation t = apply_one (built_in Not bool_sort) t

abbrev pub conjunction : Tree → Tree → Tree
conjunction t u = apply_two (built_in And bool_sort) t u

abbrev pub disjunction : Tree → Tree → Tree
disjunction t u = apply_two (built_in Or bool_sort) t u

abbrev pub implication : Tree → Tree → Tree
implication t u = apply_two (built_in Implies bool_sort) t u

abbrev pub equivalence : Tree → Tree → Tree
equivalence t u = apply_two (built_in Iff bool_sort) t u

-- equality at a sort
abbrev pub equality : List ℕ → Tree → Tree → Tree
equality s t u = apply_two (built_in Equal s) t u

-- inequality at a sort
abbrev pub inequality : List ℕ → Tree → Tree → Tree
inequality s t u = apply_two (built_in Unequal s) t u

-- the choice at a sort: if the first then the second else the third
abbrev pub choice : List ℕ → Tree → Tree → Tree → Tree
choice s c t u = app (built_in If s) (more c (more t (more u none)))

-- the formula of an equation: the other side where one is true, the right one first; else the equivalence of truth
-- values, or the equality at the sides' sort
abbrev pub formula : Tree → Tree → Tree
formula l r =
    if is_truth r then l else
    if is_truth l then r else
    if bytes_eq (sort_of l) bool_sort then equivalence l r else equality (sort_of l) l r
