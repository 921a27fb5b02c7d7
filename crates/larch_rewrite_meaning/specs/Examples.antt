-- Examples: sums of numbers, and terms that grow.
use Rattle.std.specs.Prelude.{ℕ, zero, suc, List, [], ◌∷◌, codes}
use Rattle.std.specs.Fmt.{digits}
use Rattle.larch_term.specs.Operator.{plain}
use Rattle.larch_term.specs.Tree.{Tree, var}
use Rattle.larch_term.specs.BuiltIn.{bool_sort, is_built_in}
use Rattle.larch_term.specs.Equality.{same_tree}
use Rattle.larch_term.specs.OperatorKey.{same_operator}
use Rattle.larch_term.specs.Truth.{truth}
use Rattle.larch_tables.specs.CalculusExample.{nought, successor, plus, x_number, y_number, number_sort}
use Rattle.larch_tables.specs.CalculusFormula.{constant, apply_one, apply_two, equality, falsity}
use Rattle.larch_rewrite_meaning.specs.NormalForm.{normal}
use Rattle.larch_rewrite_meaning.specs.Sides.{Sides}

-- what an example computes with, as one name
unfoldable pub normalising : Unit {0}
unfolding normal same_tree same_operator is_built_in digits
normalising = tt

-- a rule from left to right
abbrev pub rule : Tree → Tree → Sides
rule l r = record { left = l; right = r }

-- 0, and what follows a number
abbrev pub zero_term : Tree
zero_term = constant nought

abbrev pub next : Tree → Tree
next t = apply_one successor t

-- one and one
abbrev pub one_and_one : Tree
one_and_one = apply_two plus (next zero_term) (next zero_term)

-- x + 0 -> x, and x + s(y) -> s(x + y)
abbrev pub sums : List Sides
sums =
    rule (apply_two plus x_number zero_term) x_number ∷
    rule (apply_two plus x_number (next y_number)) (next (apply_two plus x_number y_number)) ∷ []

-- a constant of the numbers
abbrev pub constant_named : List ℕ → Tree
constant_named n = constant (record { name = plain n; domain = []; range = number_sort })

-- a and b
abbrev pub a : Tree
a = constant_named (codes "a")

abbrev pub b : Tree
b = constant_named (codes "b")

-- (a = b) -> true, and behind it (b = a) -> false
abbrev pub both_ways : List Sides
both_ways = rule (equality number_sort a b) truth ∷ rule (equality number_sort b a) falsity ∷ []

-- a variable of truth values
abbrev pub p : Tree
p = var (codes "p") bool_sort

-- x -> 0, whatever number it is
abbrev pub anything : List Sides
anything = rule x_number zero_term ∷ []

-- sums of a number with itself, so many times over
abbrev pub grown : ℕ → Tree
grown zero = zero_term
grown (suc n) = let t = grown n in apply_two plus t t

-- s(0) -> something large
abbrev pub exploding : List Sides
exploding = rule (next zero_term) (grown 12) ∷ []
