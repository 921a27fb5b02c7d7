-- What the rules with side conditions suppose beside these conditions.
use Rattle.std.specs.Prelude.{◌≡◌, ℕ, false, List, [], ◌∷◌, map, All, Contains, Some}
use Rattle.std.specs.List.{slice_get}
use Rattle.larch_term.specs.Operator.{PlainOperator}
use Rattle.larch_term.specs.Tree.{Tree, var, app}
use Rattle.larch_term.specs.BuiltIn.{bool_sort}
use Rattle.larch_term.specs.Variable.{occurrences}
use Rattle.larch_term.specs.Sorts.{sort_of, IsTermOver}
use Rattle.larch_term.specs.Statement.{IsStatementOver, IsWellSortedTheory}
use Rattle.larch_term.specs.declared.variable.Variable.{Variable}
use Rattle.larch_term.specs.declared.statement.Statement.{Statement}
use Rattle.larch_term.specs.declared.statement.Statement.TheVariants.{Equation, Generated, Partitioned}
use Rattle.larch_term.specs.declared.statement.Theory.{Theory}
use Rattle.larch_term.specs.Truth.{truth}
use Rattle.larch_calculus.specs.Derivable.{Derivable}
use Rattle.larch_calculus.specs.Formula.{falsity, constant, apply_one}
use Rattle.larch_calculus.specs.Generation.{place_name, generation_hypotheses, constant_terms, equation_at}
use Rattle.larch_calculus.specs.Generation.{induction_hypotheses}
use Rattle.larch_calculus.specs.Observation.{Observation, observations_of, observer_term, observations}
use Rattle.larch_calculus.specs.Theories.{IsIncluded, IsNewName, AreConstants, with_statements, extend}
use Rattle.larch_models_meaning.specs.Computed.{holds}
use Rattle.larch_models_meaning.specs.Interpretation.{Interpretation}
use Rattle.larch_models_meaning.specs.Models.{IsModel}

-- the theory is well sorted and has the model, in which the statement fails
pub record Refutes (m : Interpretation) (t : Theory) (s : Statement) : Type 0 where
  pub well_sorted : IsWellSortedTheory t
  pub model : IsModel m t
  pub fails : holds m s ≡ false

-- `weaken`, from a theory that needn't be well sorted
pub record WeakenPremises (u t : Theory) (s : Statement) : Type 0 where
  pub included : IsIncluded u t
  pub derived : Derivable u s

-- `fresh`, of constants that needn't be new
pub record FreshPremises (t : Theory) (cs : List PlainOperator) (vs : List Variable) (a b : Tree) : Type 0 where
  pub constants : AreConstants cs
  pub sorts : map (λ f. f.range) cs ≡ map (λ v. v.sort) vs
  pub derived : Derivable (extend t cs []) (Equation a b)

-- `cases`, of a formula that may have variables
pub record CasesPremises (t : Theory) (f a b : Tree) : Type 0 where
  pub over : IsTermOver t.operators f
  pub sort : sort_of f ≡ bool_sort
  pub if_true : Derivable (with_statements t (Equation f truth ∷ [])) (Equation a b)
  pub if_false : Derivable (with_statements t (Equation f falsity ∷ [])) (Equation a b)

-- `induct`, with new constants that needn't differ
pub record InductPremises (t : Theory) (x s : List ℕ) (fs : List PlainOperator) (cs : ℕ → List PlainOperator)
    (a b : Tree) : Type 0 where
  pub generated : Derivable t (Generated s fs)
  pub over : IsStatementOver t.operators (Equation a b)
  pub new : (i : ℕ) (f : PlainOperator) → slice_get fs i ≡ Some f → All (λ c. IsNewName t c.name) (cs i)
  pub constants : (i : ℕ) (f : PlainOperator) → slice_get fs i ≡ Some f → AreConstants (cs i)
  pub sorts : (i : ℕ) (f : PlainOperator) → slice_get fs i ≡ Some f → map (λ c. c.range) (cs i) ≡ f.domain
  pub derived : (i : ℕ) (f : PlainOperator) → slice_get fs i ≡ Some f
      → Derivable (extend t (cs i) (induction_hypotheses x s a b (cs i)))
      (equation_at x s a b (app f (constant_terms (cs i))))

-- `observe`, with any variables beside the terms
pub record ObservePremises (t : Theory) (s : List ℕ) (os : List PlainOperator) (names : ℕ → ℕ → List ℕ) (a b : Tree)
    : Type 0 where
  pub partitioned : Derivable t (Partitioned s os)
  pub over : IsStatementOver t.operators (Equation a b)
  pub sort : sort_of a ≡ s
  pub derived : (i : ℕ) (w : Observation) → slice_get (observations_of s os) i ≡ Some w
      → Derivable t (Equation (observer_term (names i) w a) (observer_term (names i) w b))

-- none of these variables occurs in the term
abbrev pub OccursNot : List Variable → Tree → Type 0
OccursNot vs t = All (λ v. Contains (occurrences t) v → ⊥) vs

-- `generated`, of a predicate that needn't be new
pub record GeneratedPremises (t : Theory) (s : List ℕ) (fs : List PlainOperator) (p : PlainOperator)
    (x : List ℕ) : Type 0 where
  pub over : IsStatementOver t.operators (Generated s fs)
  pub domain : p.domain ≡ s ∷ []
  pub range : p.range ≡ bool_sort
  pub derived : Derivable (extend t (p ∷ []) (generation_hypotheses p s fs)) (Equation (apply_one p (var x s)) truth)

-- `partitioned`, of constants that needn't be new or differ
pub record PartitionedPremises (t : Theory) (s : List ℕ) (os : List PlainOperator) (c d : PlainOperator) : Type 0 where
  pub over : IsStatementOver t.operators (Partitioned s os)
  pub constants : AreConstants (c ∷ d ∷ [])
  pub first_sort : c.range ≡ s
  pub second_sort : d.range ≡ s
  pub derived : Derivable (extend t (c ∷ d ∷ []) (observations place_name s os (constant c) (constant d)))
      (Equation (constant c) (constant d))
