-- Theories and models that show what the side conditions of rules are for.
use Rattle.std.specs.Prelude.{◌==◌, ◌&&◌, not, ℕ, zero, suc, if◌then◌else◌, List, [], ◌∷◌, codes}
use Rattle.larch_term.specs.Operator.{PlainOperator, plain, boxed}
use Rattle.larch_term.specs.Tree.{Tree, var, app, none, more}
use Rattle.larch_term.specs.BuiltIn.{bool_sort}
use Rattle.larch_term.specs.declared.statement.Statement.{Statement}
use Rattle.larch_term.specs.declared.statement.Statement.TheVariants.{Equation, Generated, Partitioned}
use Rattle.larch_term.specs.declared.statement.Theory.{Theory}
use Rattle.larch_term.specs.declared.variable.Variable.{Variable}
use Rattle.larch_term.specs.Truth.{truth}
use Rattle.larch_calculus.specs.Example.{number_sort, nought, x_number}
use Rattle.larch_calculus.specs.Formula.{constant, apply_one, apply_two, equality}
use Rattle.larch_models_meaning.specs.Examples.{two_values}
use Rattle.larch_models_meaning.specs.Interpretation.{Interpretation, first, others, bit, is_one}
use Rattle.larch_models_meaning.specs.Standard.{standard, is_named}

abbrev pub sort_n : List ℕ
sort_n = codes "N"

abbrev pub sort_m : List ℕ
sort_m = codes "M"

-- a and b: -> N
abbrev pub constant_a : PlainOperator
constant_a = record { name = plain (codes "a"); domain = []; range = sort_n }

abbrev pub constant_b : PlainOperator
constant_b = record { name = plain (codes "b"); domain = []; range = sort_n }

-- x and y: N
abbrev pub variable_x : Variable
variable_x = record { name = codes "x"; sort = sort_n }

abbrev pub variable_y : Variable
variable_y = record { name = codes "y"; sort = sort_n }

-- x and y as terms
abbrev pub term_x : Tree
term_x = var (codes "x") sort_n

abbrev pub term_y : Tree
term_y = var (codes "y") sort_n

-- z: M
abbrev pub term_z : Tree
term_z = var (codes "z") sort_m

-- 0 for each operator that isn't built in
abbrev pub no_tables : PlainOperator → List ℕ → ℕ
no_tables f vs = 0

abbrev pub all_nought : Interpretation
all_nought = standard two_values no_tables

-- fresh: a == b
abbrev pub equal_constants : Theory
equal_constants = record {
  operators = constant_a ∷ constant_b ∷ [];
  statements = Equation (constant constant_a) (constant constant_b) ∷ [];
}

-- cases, of numbers modulo 2: the formula x = 0
abbrev pub x_is_nought : Tree
x_is_nought = equality number_sort x_number (constant nought)

-- observe: the variable beside each term is z
abbrev pub named_z : ℕ → ℕ → List ℕ
named_z i k = codes "z"

-- observe, with a variable that occurs: f and g: M -> N and o: N, M -> Bool
abbrev pub operator_f : PlainOperator
operator_f = record { name = plain (codes "f"); domain = sort_m ∷ []; range = sort_n }

abbrev pub operator_g : PlainOperator
operator_g = record { name = plain (codes "g"); domain = sort_m ∷ []; range = sort_n }

abbrev pub observer_of_pairs : PlainOperator
observer_of_pairs = record { name = plain (codes "o"); domain = sort_n ∷ sort_m ∷ []; range = bool_sort }

-- N partitioned by o, and o(f(z), z) == o(g(z), z)
abbrev pub observed_with_own : Theory
observed_with_own = record {
  operators = observer_of_pairs ∷ operator_f ∷ operator_g ∷ [];
  statements =
      Partitioned sort_n (observer_of_pairs ∷ [])
      ∷ Equation (apply_two observer_of_pairs (apply_one operator_f term_z) term_z)
      (apply_two observer_of_pairs (apply_one operator_g term_z) term_z) ∷ [];
}

-- o(u, v) is u and not v, f(v) is 0, g(v) is v
abbrev pub own_tables : PlainOperator → List ℕ → ℕ
own_tables f vs =
    if is_named f (codes "o") then bit (is_one (first vs) && not (is_one (first (others vs))))
    else (if is_named f (codes "g") then first vs else 0)

abbrev pub own_values : Interpretation
own_values = standard two_values own_tables

-- observe, with one variable twice: o: N, M, M -> Bool
abbrev pub observer_of_triples : PlainOperator
observer_of_triples = record { name = plain (codes "o"); domain = sort_n ∷ sort_m ∷ sort_m ∷ []; range = bool_sort }

-- o with its second and third argument z
abbrev pub observed_twice : PlainOperator → Tree
observed_twice c = app observer_of_triples (more (constant c) (more term_z (more term_z none)))

-- N partitioned by o, and o(a, z, z) == o(b, z, z)
abbrev pub observed_with_one : Theory
observed_with_one = record {
  operators = observer_of_triples ∷ constant_a ∷ constant_b ∷ [];
  statements =
      Partitioned sort_n (observer_of_triples ∷ [])
      ∷ Equation (observed_twice constant_a) (observed_twice constant_b) ∷ [];
}

-- o(u, v, w) is u and v ~= w, a is 0, b is 1
abbrev pub one_tables : PlainOperator → List ℕ → ℕ
one_tables f vs =
    if is_named f (codes "o") then bit (is_one (first vs) && not (first (others vs) == first (others (others vs))))
    else bit (is_named f (codes "b"))

abbrev pub one_values : Interpretation
one_values = standard two_values one_tables

-- induct: p: N, N -> N and q: N -> N
abbrev pub operator_p : PlainOperator
operator_p = record { name = plain (codes "p"); domain = sort_n ∷ sort_n ∷ []; range = sort_n }

abbrev pub operator_q : PlainOperator
operator_q = record { name = plain (codes "q"); domain = sort_n ∷ []; range = sort_n }

-- q(x) == a, with this term for x
abbrev pub sent_to_a : Tree → Statement
sent_to_a t = Equation (apply_one operator_q t) (constant constant_a)

-- N generated by a, b, p; q(a) == a, q(b) == a, and q(p(x, x)) == a
abbrev pub equal_pairs : Theory
equal_pairs = record {
  operators = constant_a ∷ constant_b ∷ operator_p ∷ operator_q ∷ [];
  statements =
      Generated sort_n (constant_a ∷ constant_b ∷ operator_p ∷ [])
      ∷ sent_to_a (constant constant_a) ∷ sent_to_a (constant constant_b)
      ∷ sent_to_a (apply_two operator_p term_x term_x) ∷ [];
}

-- a is 0, b is 1, p(u, v) is 0 for equals and 2 else, q(2) is 1 and q is 0 else
abbrev pub pair_tables : PlainOperator → List ℕ → ℕ
pair_tables f vs =
    if is_named f (codes "b") then 1
    else (if is_named f (codes "p") then (if first vs == first (others vs) then 0 else 2)
    else (if is_named f (codes "q") then bit (first vs == 2) else 0))

abbrev pub pair_values : Interpretation
pair_values = standard (λ s. 2) pair_tables

-- constants of a box
abbrev pub box_constant : ℕ → PlainOperator
box_constant k = record { name = boxed 0 k; domain = []; range = sort_n }

-- one constant for both arguments of the third generator
abbrev pub one_twice : ℕ → List PlainOperator
one_twice zero = []
one_twice (suc zero) = []
one_twice (suc (suc i)) = box_constant 0 ∷ box_constant 0 ∷ []

-- generated: p: N -> Bool
abbrev pub predicate : PlainOperator
predicate = record { name = plain (codes "p"); domain = sort_n ∷ []; range = bool_sort }

-- p(x) == true
abbrev pub holding_everywhere : Theory
holding_everywhere = record {
  operators = constant_a ∷ predicate ∷ [];
  statements = Equation (apply_one predicate term_x) truth ∷ [];
}

-- a is 0, p is true everywhere
abbrev pub true_tables : PlainOperator → List ℕ → ℕ
true_tables f vs = bit (is_named f (codes "p"))

abbrev pub true_values : Interpretation
true_values = standard two_values true_tables

-- partitioned: a == b, and p, of which nothing is said
abbrev pub alike : Theory
alike = record {
  operators = constant_a ∷ constant_b ∷ predicate ∷ [];
  statements = Equation (constant constant_a) (constant constant_b) ∷ [];
}

-- soundness itself: an equation of two constants, and no operators
abbrev pub ill_sorted : Theory
ill_sorted = record {
  operators = [];
  statements = Equation (constant (box_constant 0)) (constant (box_constant 1)) ∷ [];
}

-- weaken: it with the two operators
abbrev pub sorted_again : Theory
sorted_again = record {
  operators = box_constant 0 ∷ box_constant 1 ∷ [];
  statements = Equation (constant (box_constant 0)) (constant (box_constant 1)) ∷ [];
}
