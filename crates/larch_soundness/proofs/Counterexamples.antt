-- What the counterexamples share.
use Rattle.std.proofs.Common.{◌≡◌, ◌≢◌, ℕ, zero, suc, inl, true, false, List, [], ◌∷◌, All, Contains, Some, refl, sym}
use Rattle.std.proofs.Common.{arith}
use Rattle.std.specs.List.{slice_get, AllPairs}
use Rattle.std.proofs.lemmas.List.Elements.{All-nil, All-cons}
use Rattle.larch_base.proofs.Options.{some_inj}
use Rattle.larch_term.specs.Operator.{PlainOperator}
use Rattle.larch_term.specs.OperatorKey.{name_Decides}
use Rattle.larch_term.specs.Sorts.{IsKnown}
use Rattle.larch_term.specs.Statement.{IsStatementOver, IsWellSortedTheory}
use Rattle.larch_term.specs.declared.statement.Statement.{Statement}
use Rattle.larch_term.specs.declared.statement.Statement.TheVariants.{Equation, Partitioned}
use Rattle.larch_term.specs.declared.statement.Theory.{Theory}
use Rattle.larch_calculus.specs.Example.{number_sort, nought, successor, plus, numbers_generated, sum_with_nought}
use Rattle.larch_calculus.specs.Example.{sum_with_successor, numbers}
use Rattle.larch_calculus.specs.Formula.{constant}
use Rattle.larch_models_meaning.specs.Computed.{holds, all_hold}
use Rattle.larch_soundness.specs.Conditions.{Refutes}
use Rattle.larch_soundness.specs.Counterexamples.{sort_n, constant_a, constant_b, predicate, alike}
use Rattle.larch_models_meaning.specs.Standard.{standard}
use Rattle.larch_soundness.proofs.Computing.{model_so}
use Rattle.larch_soundness.proofs.Standards.{standard_interprets}

-- a standard interpretation refutes by what is computed
pub refutes : (last : List ℕ → ℕ) (tables : PlainOperator → List ℕ → ℕ) (t : Theory) (s : Statement)
    → IsWellSortedTheory t → all_hold (standard last tables) t ≡ true → holds (standard last tables) s ≡ false
    → Refutes (standard last tables) t s
refutes last tables t s w h f =
    record { well_sorted = w; model = model_so (standard_interprets last tables t.operators) h; fails = f }

-- all of one or two
pub one : {X : Type 0} (P : X → Type 0) (x : X) → P x → All P (x ∷ [])
one P x p = All-cons P x [] p (All-nil P)

pub both : {X : Type 0} (P : X → Type 0) (x y : X) → P x → P y → All P (x ∷ y ∷ [])
both P x y p q = All-cons P x (y ∷ []) p (one P y q)

-- the only one that can be got from a list of one
pub got_one : {X : Type 0} (x y : X) (i : ℕ) → slice_get (x ∷ []) i ≡ Some y → x ≡ y
got_one x y zero e = some_inj e
got_one x y (suc i) e = cc

-- an equation of constants is well sorted
pub constants_over : (fs : List PlainOperator) (c d : PlainOperator) → Contains fs c → Contains fs d → c.domain ≡ []
    → d.domain ≡ [] → c.range ≡ d.range → IsStatementOver fs (Equation (constant c) (constant d))
constants_over fs c d m n p q e = (((sym p, tt), (inl m, tt)), ((sym q, tt), (inl n, tt)), e)

-- the only element of a list stands in no pair
pub no_pairs : {X : Type 0} (R : X → X → Type 0) (x : X) → AllPairs R (x ∷ [])
no_pairs R x i j d lt within = absurd (omega arith)

pub names_differ : constant_a.name ≢ constant_b.name
names_differ e = let same : false ≡ true = (name_Decides constant_a.name constant_b.name).1 e in cc

pub has_nought : IsKnown numbers.operators nought
has_nought = inl (0, omega arith, refl)

has_successor : IsKnown numbers.operators successor
has_successor = inl (1, omega arith, refl)

pub has_plus : IsKnown numbers.operators plus
has_plus = inl (2, omega arith, refl)

-- the example is a well sorted theory
pub numbers_well_sorted : IsWellSortedTheory numbers
numbers_well_sorted =
    let own = IsStatementOver numbers.operators in
    All-cons own numbers_generated (sum_with_nought ∷ sum_with_successor ∷ [])
    (both (λ g. IsKnown numbers.operators g × (g.range ≡ number_sort)) nought successor (has_nought, refl)
    (has_successor, refl))
    (both own sum_with_nought sum_with_successor
    (((refl, (tt, ((refl, tt), tt))), (has_plus, (tt, ((has_nought, tt), tt)))), (tt, tt), refl) (
      ((refl, (tt, ((refl, (tt, tt)), tt))), (has_plus, (tt, ((has_successor, (tt, tt)), tt)))),
      ((refl, ((refl, (tt, (tt, tt))), tt)), (has_successor, ((has_plus, (tt, (tt, tt))), tt))),
      refl,
    ))

-- the theory that says nothing of its predicate
pub alike_well_sorted : IsWellSortedTheory alike
alike_well_sorted =
    one (IsStatementOver alike.operators) (Equation (constant constant_a) (constant constant_b))
    (constants_over alike.operators constant_a constant_b (0, omega arith, refl) (1, omega arith, refl) refl refl refl)

pub predicate_over : IsStatementOver alike.operators (Partitioned sort_n (predicate ∷ []))
predicate_over =
    one (λ g. IsKnown alike.operators g × Contains g.domain sort_n) predicate
    (inl (2, omega arith, refl), (0, omega arith, refl))
