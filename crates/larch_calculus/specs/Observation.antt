-- Observations: what the observers of a partition clause show of two terms.
use Rattle.std.specs.Prelude.{◌≢◌, ◌==◌, ℕ, suc, if◌then◌else◌, List, [], ◌∷◌, ◌++◌, map, AllPairs, bytes_eq}
use Rattle.larch_term.specs.Operator.{PlainOperator}
use Rattle.larch_term.specs.Tree.{Tree, Forest, var, app, none, more}
use Rattle.larch_term.specs.declared.variable.Variable.{Variable}
use Rattle.larch_term.specs.declared.statement.Statement.{Statement}
use Rattle.larch_term.specs.declared.statement.Statement.TheVariants.{Equation}

-- an observer, with a place of its domain counted from 1
pub record Observation : Type 0 where
  pub observer : PlainOperator
  pub place : ℕ

-- the places at which a sort stands, the first having a number
abbrev pub places_of_sort : List ℕ → ℕ → List (List ℕ) → List ℕ
places_of_sort s k [] = []
places_of_sort s k (r ∷ rs) =
    if bytes_eq r s then k ∷ places_of_sort s (suc k) rs else places_of_sort s (suc k) rs

-- each observer with each place of the sort, by observer and then by place
abbrev pub observations_of : List ℕ → List PlainOperator → List Observation
observations_of s [] = []
observations_of s (o ∷ os) =
    map (λ k. record { observer = o; place = k }) (places_of_sort s 1 o.domain) ++ observations_of s os

-- arguments of these sorts, the first having a number: a term at a place, and at the others variables by these names
abbrev pub arguments_with : (ℕ → List ℕ) → ℕ → Tree → ℕ → List (List ℕ) → Forest
arguments_with names place t k [] = none
arguments_with names place t k (r ∷ rs) =
    more (if k == place then t else var (names k) r) (arguments_with names place t (suc k) rs)

-- those variables
abbrev pub variables_beside : (ℕ → List ℕ) → ℕ → ℕ → List (List ℕ) → List Variable
variables_beside names place k [] = []
variables_beside names place k (r ∷ rs) =
    if k == place then variables_beside names place (suc k) rs
    else record { name = names k; sort = r } ∷ variables_beside names place (suc k) rs

-- the observer with the term at its place and variables by these names at the others
abbrev pub observer_term : (ℕ → List ℕ) → Observation → Tree → Tree
observer_term names w t = app w.observer (arguments_with names w.place t 1 w.observer.domain)

-- the other arguments of an observation
abbrev pub other_variables : (ℕ → List ℕ) → Observation → List Variable
other_variables names w = variables_beside names w.place 1 w.observer.domain

-- the equations that the observers of a sort have for two terms
abbrev pub observations : (ℕ → List ℕ) → List ℕ → List PlainOperator → Tree → Tree → List Statement
observations names s os t u =
    map (λ w. Equation (observer_term names w t) (observer_term names w u)) (observations_of s os)

-- no variable stands twice
abbrev pub AreDifferent : List Variable → Type 0
AreDifferent vs = AllPairs (λ v w. v ≢ w) vs
