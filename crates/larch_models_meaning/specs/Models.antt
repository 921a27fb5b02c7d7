-- What holds in an interpretation, and models of theories.
use Rattle.std.specs.Prelude.{◌≡◌, ◌≤◌, ◌==◌, ℕ, suc, Bool, true, if◌then◌else◌, List, [], ◌∷◌, Contains}
use Rattle.larch_term.specs.Operator.{PlainOperator}
use Rattle.larch_term.specs.declared.statement.Statement.{Statement}
use Rattle.larch_term.specs.declared.statement.Statement.TheVariants.{Equation, Generated, Partitioned}
use Rattle.larch_term.specs.declared.statement.Theory.{Theory}
use Rattle.larch_calculus.specs.Observation.{Observation, observations_of}
use Rattle.larch_models_meaning.specs.Interpretation.{Interpretation, Assignment, value_of, Within, InRange}
use Rattle.larch_models_meaning.specs.Interpretation.{IsInterpretation}

-- each of the arguments that is of the sort is in the set
abbrev pub ArgumentsIn : (ℕ → Bool) → List ℕ → List (List ℕ) → List ℕ → Type 0
ArgumentsIn p s [] vs = Unit {0}
ArgumentsIn p s (r ∷ rs) [] = Unit {0}
ArgumentsIn p s (r ∷ rs) (v ∷ vs) = (r ≡ s → p v ≡ true) × ArgumentsIn p s rs vs

-- the set of values of the sort has what the operators make of its values
abbrev pub IsClosedUnder : Interpretation → List ℕ → List PlainOperator → (ℕ → Bool) → Type 0
IsClosedUnder m s fs p =
    (f : PlainOperator) → Contains fs f → (vs : List ℕ) → Within m.last f.domain vs
    → ArgumentsIn p s f.domain vs → p (m.table f vs) ≡ true

-- arguments, the first having a number, with this value at a place
abbrev pub with_value : ℕ → ℕ → ℕ → List ℕ → List ℕ
with_value place u k [] = []
with_value place u k (v ∷ vs) = (if k == place then u else v) ∷ with_value place u (suc k) vs

-- an observation shows the same of two values, whatever the other arguments
abbrev pub ShowsSame : Interpretation → Observation → ℕ → ℕ → Type 0
ShowsSame m w u v =
    (vs : List ℕ) → Within m.last w.observer.domain vs
    → m.table w.observer (with_value w.place u 1 vs) ≡ m.table w.observer (with_value w.place v 1 vs)

-- an equation holds if both sides have one value under every assignment, `generated` if every set that is closed under
-- the operators has all values of the sort, `partitioned` if values of which all observations show the same are equal
abbrev pub Holds : Interpretation → Statement → Type 0
Holds m (Equation l r) = (a : Assignment) → InRange m.last a → value_of m a l ≡ value_of m a r
Holds m (Generated s fs) = (p : ℕ → Bool) → IsClosedUnder m s fs p → (v : ℕ) → v ≤ m.last s → p v ≡ true
Holds m (Partitioned s os) =
    (u v : ℕ) → u ≤ m.last s → v ≤ m.last s
    → ((w : Observation) → Contains (observations_of s os) w → ShowsSame m w u v) → u ≡ v

-- an interpretation of the theory's operators in which its statements hold
pub record IsModel (m : Interpretation) (t : Theory) : Type 0 where
  pub interpretation : IsInterpretation t.operators m
  pub statements : (s : Statement) → Contains t.statements s → Holds m s
