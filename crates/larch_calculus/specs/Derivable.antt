-- What is derivable from a theory.
use Rattle.std.specs.Prelude.{◌≡◌, ℕ, List, [], ◌∷◌, map, All, Contains, Some}
use Rattle.std.specs.List.{slice_get}
use Rattle.larch_term.specs.Operator.{PlainOperator}
use Rattle.larch_term.specs.Tree.{Tree, var, app}
use Rattle.larch_term.specs.BuiltIn.{bool_sort}
use Rattle.larch_term.specs.Sorts.{sort_of, IsOver, IsTermOver}
use Rattle.larch_term.specs.Place.{at, put}
use Rattle.larch_term.specs.Variable.{occurrences}
use Rattle.larch_term.specs.Substitution.{instance_of, Fits}
use Rattle.larch_term.specs.Statement.{IsStatementOver, statement_zero, IsWellSortedTheory}
use Rattle.larch_term.specs.declared.substitution.Entry.{Entry}
use Rattle.larch_term.specs.declared.variable.Variable.{Variable}
use Rattle.larch_term.specs.declared.statement.Statement.{Statement}
use Rattle.larch_term.specs.declared.statement.Statement.TheVariants.{Equation, Generated, Partitioned}
use Rattle.larch_term.specs.declared.statement.Theory.{Theory}
use Rattle.larch_calculus.specs.Formula.{falsity, constant, apply_one, equality}
use Rattle.larch_term.specs.Truth.{truth}
use Rattle.larch_calculus.specs.Identity.{IsIdentity}
use Rattle.larch_calculus.specs.Theories.{with_statements, extend, IsIncluded, AreNew, AreConstants}
use Rattle.larch_calculus.specs.Observation.{Observation, observations_of, observer_term, other_variables, observations}
use Rattle.larch_calculus.specs.Observation.{AreDifferent}
use Rattle.larch_calculus.specs.Generation.{place_name, generation_hypotheses, constant_terms, equation_at}
use Rattle.larch_calculus.specs.Generation.{induction_hypotheses}
use Rattle.larch_calculus.specs.Freed.{free_constants}

-- the constants are new, and have the sorts of the generator's arguments
pub record AreArguments (t : Theory) (f : PlainOperator) (cs : List PlainOperator) : Type 0 where
  pub new : AreNew t cs
  pub constants : AreConstants cs
  pub sorts : map (λ c. c.range) cs ≡ f.domain

-- no variable stands twice, and none occurs in one of two terms
pub record AreApart (vs : List Variable) (t u : Tree) : Type 0 where
  pub different : AreDifferent vs
  pub left : All (λ v. Contains (occurrences t) v → ⊥) vs
  pub right : All (λ v. Contains (occurrences u) v → ⊥) vs

-- a statement is derivable from a theory: the least relation with these fourteen rules
pub data Derivable : Theory → Statement → Type 0 where
  -- what the theory states, and what every theory states of the truth values
  axiom_ : {t : Theory} {s : Statement} → Contains (statement_zero ∷ t.statements) s → IsStatementOver t.operators s
      → Derivable t s
  identity : {t : Theory} {a b : Tree} → IsIdentity a b → Derivable t (Equation a b)
  reflexive : {t : Theory} {a : Tree} → IsTermOver t.operators a → Derivable t (Equation a a)
  symmetric : {t : Theory} {a b : Tree} → Derivable t (Equation a b) → Derivable t (Equation b a)
  -- one side of an equation takes the place of the other in the right side of a further one
  replace : {t : Theory} {a b c u v : Tree} (p : List ℕ) → Derivable t (Equation a b) → Derivable t (Equation u v)
      → at b p ≡ Some u → c ≡ put b p v → Derivable t (Equation a c)
  -- all variables are replaced at once
  instance : {t : Theory} {a b c d : Tree} (es : List Entry) → Fits es → All (λ e. IsOver t.operators e.term) es
      → Derivable t (Equation a b) → c ≡ instance_of es a → d ≡ instance_of es b → Derivable t (Equation c d)
  -- terms whose equality is true are equal
  equal : {t : Theory} {a b : Tree} (s : List ℕ) → Derivable t (Equation (equality s a b) truth)
      → Derivable t (Equation a b)
  -- what is derivable from a well sorted theory is so from one that has all its operators and statements
  weaken : {t u : Theory} {s : Statement} → IsWellSortedTheory u → IsIncluded u t → Derivable u s → Derivable t s
  -- what is derivable of new constants holds of all values
  fresh : {t : Theory} {a b c d : Tree} (cs : List PlainOperator) (vs : List Variable) → AreNew t cs → AreConstants cs
      → map (λ f. f.range) cs ≡ map (λ v. v.sort) vs → Derivable (extend t cs []) (Equation a b)
      → c ≡ free_constants cs vs a → d ≡ free_constants cs vs b → Derivable t (Equation c d)
  -- a formula without variables is true or false
  cases : {t : Theory} {a b : Tree} (f : Tree) → IsTermOver t.operators f → sort_of f ≡ bool_sort → occurrences f ≡ []
      → Derivable (with_statements t (Equation f truth ∷ [])) (Equation a b)
      → Derivable (with_statements t (Equation f falsity ∷ [])) (Equation a b) → Derivable t (Equation a b)
  -- an equation holds of all values of a generated sort if, for each generator, it holds of what the generator makes of
  -- new constants once it holds of those of the sort
  induct : {t : Theory} {a b : Tree} (x s : List ℕ) (fs : List PlainOperator) (cs : ℕ → List PlainOperator)
      → Derivable t (Generated s fs) → IsStatementOver t.operators (Equation a b)
      → ((i : ℕ) (f : PlainOperator) → slice_get fs i ≡ Some f → AreArguments t f (cs i))
      → ((i : ℕ) (f : PlainOperator) → slice_get fs i ≡ Some f
      → Derivable (extend t (cs i) (induction_hypotheses x s a b (cs i)))
      (equation_at x s a b (app f (constant_terms (cs i)))))
      → Derivable t (Equation a b)
  -- two terms of a partitioned sort are equal if all observers show the same of them
  observe : {t : Theory} {a b : Tree} (s : List ℕ) (os : List PlainOperator) (names : ℕ → ℕ → List ℕ)
      → Derivable t (Partitioned s os) → IsStatementOver t.operators (Equation a b) → sort_of a ≡ s
      → ((i : ℕ) (w : Observation) → slice_get (observations_of s os) i ≡ Some w
      → AreApart (other_variables (names i) w) a b)
      → ((i : ℕ) (w : Observation) → slice_get (observations_of s os) i ≡ Some w
      → Derivable t (Equation (observer_term (names i) w a) (observer_term (names i) w b)))
      → Derivable t (Equation a b)
  -- the operators generate the sort if a new predicate that their values inherit holds of all values
  generated : {t : Theory} {s : List ℕ} {fs : List PlainOperator} (p : PlainOperator) (x : List ℕ)
      → IsStatementOver t.operators (Generated s fs) → AreNew t (p ∷ []) → p.domain ≡ s ∷ [] → p.range ≡ bool_sort
      → Derivable (extend t (p ∷ []) (generation_hypotheses p s fs)) (Equation (apply_one p (var x s)) truth)
      → Derivable t (Generated s fs)
  -- the operators partition the sort if new constants are equal once all observers show the same of them
  partitioned : {t : Theory} {s : List ℕ} {os : List PlainOperator} (c d : PlainOperator)
      → IsStatementOver t.operators (Partitioned s os) → AreNew t (c ∷ d ∷ []) → AreConstants (c ∷ d ∷ [])
      → c.range ≡ s → d.range ≡ s
      → Derivable (extend t (c ∷ d ∷ []) (observations place_name s os (constant c) (constant d)))
      (Equation (constant c) (constant d))
      → Derivable t (Partitioned s os)
