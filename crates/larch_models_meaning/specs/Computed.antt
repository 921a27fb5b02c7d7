-- Whether a statement holds in an interpretation, as a computed truth value.
use Rattle.std.specs.Prelude.{◌==◌, ◌&&◌, ◌||◌, not, ℕ, zero, suc, Bool, true, false, if◌then◌else◌, List, [], ◌∷◌}
use Rattle.std.specs.Prelude.{bytes_eq, fold}
use Rattle.std.specs.List.{list_all}
use Rattle.larch_term.specs.Operator.{PlainOperator}
use Rattle.larch_term.specs.Tree.{Tree}
use Rattle.larch_term.specs.Variable.{occurrences, variables_of, with_variable}
use Rattle.larch_term.specs.declared.variable.Variable.{Variable}
use Rattle.larch_term.specs.declared.statement.Statement.{Statement}
use Rattle.larch_term.specs.declared.statement.Statement.TheVariants.{Equation, Generated, Partitioned}
use Rattle.larch_term.specs.declared.statement.Theory.{Theory}
use Rattle.larch_calculus.specs.Observation.{Observation, observations_of}
use Rattle.larch_models_meaning.specs.Interpretation.{Interpretation, Assignment, value_of}
use Rattle.larch_models_meaning.specs.Models.{with_value}

-- all numbers up to one have the property
abbrev pub all_up_to : ℕ → (ℕ → Bool) → Bool
all_up_to zero p = p zero
all_up_to (suc n) p = p (suc n) && all_up_to n p

-- all arguments of these sorts have the property
abbrev pub all_arguments : (List ℕ → ℕ) → List (List ℕ) → (List ℕ → Bool) → Bool
all_arguments last [] p = p []
all_arguments last (r ∷ rs) p = all_up_to (last r) (λ v. all_arguments last rs (λ vs. p (v ∷ vs)))

-- the assignment with this value for a variable
abbrev pub update : List ℕ → List ℕ → ℕ → Assignment → Assignment
update x s v a = λ n r. if (bytes_eq x n && bytes_eq s r) then v else a n r

-- all assignments that differ from one at these variables alone have the property
abbrev pub all_assignments : (List ℕ → ℕ) → List Variable → Assignment → (Assignment → Bool) → Bool
all_assignments last [] a p = p a
all_assignments last (w ∷ ws) a p =
    all_up_to (last w.sort) (λ v. all_assignments last ws (update w.name w.sort v a) p)

-- the assignment of 0 to each variable
abbrev pub zeros : Assignment
zeros n s = 0

-- the different variables of two terms, those of the first one first
abbrev pub variables_of_both : Tree → Tree → List Variable
variables_of_both l r = fold with_variable (variables_of l) (occurrences r)

-- both sides have one value under every assignment
abbrev pub holds_equation : Interpretation → Tree → Tree → Bool
holds_equation m l r = all_assignments m.last (variables_of_both l r) zeros (λ a. value_of m a l == value_of m a r)

-- each of the arguments that is of the sort is in the set
abbrev pub arguments_in : (ℕ → Bool) → List ℕ → List (List ℕ) → List ℕ → Bool
arguments_in p s [] vs = true
arguments_in p s (r ∷ rs) [] = true
arguments_in p s (r ∷ rs) (v ∷ vs) = (not (bytes_eq r s) || p v) && arguments_in p s rs vs

-- no operator makes the value of values in the set
abbrev pub is_unmade : Interpretation → List ℕ → List PlainOperator → (ℕ → Bool) → ℕ → Bool
is_unmade m s fs p v =
    list_all (λ f. all_arguments m.last f.domain (λ vs. not (arguments_in p s f.domain vs && m.table f vs == v))) fs

-- the values that are made in so many steps
abbrev pub made_in : Interpretation → List ℕ → List PlainOperator → ℕ → ℕ → Bool
made_in m s fs zero v = false
made_in m s fs (suc n) v = made_in m s fs n v || not (is_unmade m s fs (made_in m s fs n) v)

-- so many steps make the least set that is closed under operators: each but the last makes a value more
abbrev pub steps_for : Interpretation → List ℕ → ℕ
steps_for m s = suc (m.last s)

-- that least set has all values of the sort
abbrev pub holds_generated : Interpretation → List ℕ → List PlainOperator → Bool
holds_generated m s fs = all_up_to (m.last s) (made_in m s fs (steps_for m s))

-- an observation shows the same of two values, whatever the other arguments
abbrev pub shows_same : Interpretation → ℕ → ℕ → Observation → Bool
shows_same m u v w =
    all_arguments m.last w.observer.domain
    (λ vs. m.table w.observer (with_value w.place u 1 vs) == m.table w.observer (with_value w.place v 1 vs))

-- values of which all observations show the same are equal
abbrev pub holds_partitioned : Interpretation → List ℕ → List PlainOperator → Bool
holds_partitioned m s os =
    all_up_to (m.last s)
    (λ u. all_up_to (m.last s) (λ v. not (list_all (shows_same m u v) (observations_of s os)) || u == v))

-- whether a statement holds
abbrev pub holds : Interpretation → Statement → Bool
holds m (Equation l r) = holds_equation m l r
holds m (Generated s fs) = holds_generated m s fs
holds m (Partitioned s os) = holds_partitioned m s os

-- whether all statements of a theory hold
abbrev pub all_hold : Interpretation → Theory → Bool
all_hold m t = list_all (holds m) t.statements
