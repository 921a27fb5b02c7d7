-- What has to be shown of clauses.
use Rattle.std.specs.Prelude.{ℕ, Bool, false, List, [], ◌∷◌, bytes_eq, codes, Option, Some, None}
use Rattle.larch_term.specs.BuiltIn.{bool_sort}
use Rattle.larch_term.specs.Operator.{PlainOperator, plain}
use Rattle.larch_term.specs.Tree.{Tree, var}
use Rattle.larch_term.specs.declared.statement.Statement.{Statement}
use Rattle.larch_term.specs.declared.statement.Statement.TheVariants.{Equation, Generated, Partitioned}
use Rattle.larch_term.specs.declared.variable.Variable.{Variable}
use Rattle.larch_calculus.specs.Formula.{apply_one, conjunction, constant, equality, implication}
use Rattle.larch_calculus.specs.Generation.{conjunction_from, generation_hypotheses, place_name}
use Rattle.larch_calculus.specs.Observation.{Observation, observations, observer_term}
use Rattle.larch_prove_meaning.specs.NewNames.{constant_named}
use Rattle.larch_prove_plans.specs.declared.subgoals.Subgoal.{Subgoal}

-- a predicate on a sort, with a name
abbrev pub predicate_named : List ℕ → List ℕ → PlainOperator
predicate_named n s = record { name = plain n; domain = s ∷ []; range = bool_sort }

-- that operators generate a sort: a new predicate, which what they make inherits, holds of a variable
abbrev pub generation_goal : List ℕ → List ℕ → List PlainOperator → Subgoal
generation_goal n s fs = record {
  constants = predicate_named n s ∷ [];
  hypotheses = generation_hypotheses (predicate_named n s) s fs;
  goal = apply_one (predicate_named n s) (var (codes "x") s);
}

-- that operators partition a sort: two new constants are equal of which they show the same
abbrev pub partition_goal : List ℕ → List ℕ → List ℕ → List PlainOperator → Subgoal
partition_goal n m s os = record {
  constants = constant_named n s ∷ constant_named m s ∷ [];
  hypotheses = observations place_name s os (constant (constant_named n s)) (constant (constant_named m s));
  goal = equality s (constant (constant_named n s)) (constant (constant_named m s));
}

-- a conjunction, if there is one, with one term more
abbrev pub with_conjunct : Option Tree → Tree → Tree
with_conjunct None t = t
with_conjunct (Some p) t = conjunction p t

-- a conjunction, if there is one, with further terms
abbrev pub with_conjuncts : Option Tree → List Tree → Option Tree
with_conjuncts None [] = None
with_conjuncts None (t ∷ ts) = Some (conjunction_from t ts)
with_conjuncts (Some p) ts = Some (conjunction_from p ts)

-- what follows from a conjunction; alone where there is none
abbrev pub implied_if : Option Tree → Tree → Tree
implied_if None t = t
implied_if (Some p) t = implication p t

-- whether a statement says that a sort is generated
abbrev pub generates : List ℕ → Statement → Bool
generates s (Equation l r) = false
generates s (Generated z fs) = bytes_eq z s
generates s (Partitioned z fs) = false

-- whether a statement says that a sort is partitioned
abbrev pub partitions : List ℕ → Statement → Bool
partitions s (Equation l r) = false
partitions s (Generated z fs) = false
partitions s (Partitioned z fs) = bytes_eq z s

-- a variable as a term
abbrev pub as_term : Variable → Tree
as_term v = var v.name v.sort

-- that an observer shows the same of two terms, with variables named by their places as its other arguments
abbrev pub same_shown : Tree → Tree → Observation → Statement
same_shown l r w = Equation (observer_term place_name w l) (observer_term place_name w r)
