-- Theories that are completed as examples.
use Rattle.std.specs.Prelude.{ℕ, List, [], ◌∷◌, codes}
use Rattle.std.specs.List.{repeat}
use Rattle.larch_term.specs.Operator.{PlainOperator, plain}
use Rattle.larch_term.specs.Tree.{Tree, var}
use Rattle.larch_term.specs.BuiltIn.{bool_sort}
use Rattle.larch_term.specs.Truth.{truth}
use Rattle.larch_term.specs.declared.statement.Statement.{Statement}
use Rattle.larch_term.specs.declared.statement.Statement.TheVariants.{Equation, Generated}
use Rattle.larch_term.specs.declared.statement.Theory.{Theory}
use Rattle.larch_calculus.specs.Formula.{constant, apply_one, apply_two, falsity}
use Rattle.larch_rewrite_meaning.specs.Sides.{Sides}

-- a rule from left to right
abbrev pub rule : Tree → Tree → Sides
rule l r = record { left = l; right = r }

-- ---- a function that is another one when it is applied twice

abbrev sort : List ℕ
sort = codes "S"

abbrev unary : List ℕ → PlainOperator
unary name = record { name = plain name; domain = sort ∷ []; range = sort }

abbrev pub g : Tree → Tree
g t = apply_one (unary (codes "g")) t

abbrev pub f : Tree → Tree
f t = apply_one (unary (codes "f")) t

-- a variable, and the first variable of a critical pair
abbrev pub x : Tree
x = var (codes "x") sort

abbrev pub v1 : Tree
v1 = var (codes "v1") sort

-- f(f(x)) == g(x), where f is above g
abbrev pub twice : Theory
twice = record {
  operators = unary (codes "g") ∷ unary (codes "f") ∷ [];
  statements = Equation (f (f x)) (g x) ∷ [];
}

-- the same, where g is above f
abbrev pub twice_below : Theory
twice_below = record twice { operators = unary (codes "f") ∷ unary (codes "g") ∷ [] }

-- ---- sums that may be exchanged

abbrev numbers : List ℕ
numbers = codes "N"

abbrev plus : PlainOperator
plus = record { name = plain (codes "__ + __"); domain = numbers ∷ numbers ∷ []; range = numbers }

abbrev pub sum : Tree → Tree → Tree
sum t u = apply_two plus t u

abbrev pub m : Tree
m = var (codes "x") numbers

abbrev pub n : Tree
n = var (codes "y") numbers

-- x + y == y + x
abbrev pub exchanges : Theory
exchanges = record { operators = plus ∷ []; statements = Equation (sum m n) (sum n m) ∷ [] }

-- ---- facts about truth values

abbrev is_zero : PlainOperator
is_zero = record { name = plain (codes "isZero"); domain = numbers ∷ []; range = bool_sort }

abbrev pub zero_is : Tree → Tree
zero_is t = apply_one is_zero t

-- isZero(x), and its opposite
abbrev pub contradicts : Theory
contradicts = record {
  operators = is_zero ∷ [];
  statements = Equation (zero_is m) truth ∷ Equation (zero_is m) falsity ∷ [];
}

-- a clause, and nothing else
abbrev zero_operator : PlainOperator
zero_operator = record { name = plain (codes "0"); domain = []; range = numbers }

abbrev pub clauses_alone : Theory
clauses_alone = record {
  operators = zero_operator ∷ [];
  statements = Generated numbers (zero_operator ∷ []) ∷ [];
}

-- ---- equations that are many, and terms that are large

-- x == x, so many times
abbrev pub the_same_often : ℕ → Theory
the_same_often n = record {
  operators = unary (codes "f") ∷ [];
  statements = repeat n (Equation x x ∷ []);
}

abbrev join : PlainOperator
join = record { name = plain (codes "__ + __"); domain = sort ∷ sort ∷ []; range = sort }

-- four of a term, and twenty
abbrev four : Tree → Tree
four t = let two = apply_two join t t in apply_two join two two

abbrev twenty : Tree → Tree
twenty t = let u = four t in apply_two join (apply_two join (four u) u) t

abbrev zero_of_sort : Tree
zero_of_sort = constant (record { name = plain (codes "0"); domain = []; range = sort })

-- f(x) equals a sum of more than twenty, and f(f(f(0))) equals 0
abbrev pub growing : Theory
growing = record {
  operators = record { name = plain (codes "0"); domain = []; range = sort } ∷ join ∷ unary (codes "f") ∷ [];
  statements = Equation (f x) (twenty x) ∷ Equation (f (f (f zero_of_sort))) zero_of_sort ∷ [];
}

-- the rule that this has before a term gets too large
abbrev pub growing_rule : Sides
growing_rule = rule (f x) (twenty x)
