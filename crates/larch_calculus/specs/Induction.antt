-- Induction on derivations.
use Rattle.std.specs.Prelude.{◌≡◌, ℕ, List, [], ◌∷◌, map, All, Contains, Some}
use Rattle.std.specs.List.{slice_get}
use Rattle.larch_term.specs.Operator.{PlainOperator}
use Rattle.larch_term.specs.Tree.{Tree, var, app}
use Rattle.larch_term.specs.BuiltIn.{bool_sort}
use Rattle.larch_term.specs.Sorts.{sort_of, IsOver, IsTermOver}
use Rattle.larch_term.specs.Place.{at, put}
use Rattle.larch_term.specs.Variable.{occurrences}
use Rattle.larch_term.specs.Substitution.{instance_of, Fits}
use Rattle.larch_term.specs.Statement.{IsStatementOver, statement_zero, IsWellSortedTheory}
use Rattle.larch_term.specs.declared.substitution.Entry.{Entry}
use Rattle.larch_term.specs.declared.variable.Variable.{Variable}
use Rattle.larch_term.specs.declared.statement.Statement.{Statement}
use Rattle.larch_term.specs.declared.statement.Statement.TheVariants.{Equation, Generated, Partitioned}
use Rattle.larch_term.specs.declared.statement.Theory.{Theory}
use Rattle.larch_calculus.specs.Formula.{falsity, constant, apply_one, equality}
use Rattle.larch_term.specs.Truth.{truth}
use Rattle.larch_calculus.specs.Identity.{IsIdentity}
use Rattle.larch_calculus.specs.Theories.{with_statements, extend, IsIncluded, AreNew, AreConstants}
use Rattle.larch_calculus.specs.Observation.{Observation, observations_of, observer_term, other_variables, observations}
use Rattle.larch_calculus.specs.Generation.{place_name, generation_hypotheses, constant_terms, equation_at}
use Rattle.larch_calculus.specs.Generation.{induction_hypotheses}
use Rattle.larch_calculus.specs.Freed.{free_constants}
use Rattle.larch_calculus.specs.Derivable.{Derivable, AreArguments, AreApart, axiom_, identity, reflexive, symmetric}
use Rattle.larch_calculus.specs.Derivable.{replace, instance, equal, weaken, fresh, cases, induct, observe, generated}
use Rattle.larch_calculus.specs.Derivable.{partitioned}

-- a statement that is derivable and has a property
abbrev pub Derived : (Theory → Statement → Type 0) → Theory → Statement → Type 0
Derived P t s = Derivable t s × P t s

-- each rule leads from statements that are derivable and have the property to one that has it
pub record IsClosed (P : Theory → Statement → Type 0) : Type 0 where
  pub axiom_ : (t : Theory) (s : Statement)
      → Contains (statement_zero ∷ t.statements) s → IsStatementOver t.operators s → P t s
  pub identity : (t : Theory) (a b : Tree) → IsIdentity a b → P t (Equation a b)
  pub reflexive : (t : Theory) (a : Tree) → IsTermOver t.operators a → P t (Equation a a)
  pub symmetric : (t : Theory) (a b : Tree) → Derived P t (Equation a b) → P t (Equation b a)
  pub replace : (t : Theory) (a b c u v : Tree) (p : List ℕ)
      → Derived P t (Equation a b) → Derived P t (Equation u v)
      → at b p ≡ Some u → c ≡ put b p v → P t (Equation a c)
  pub instance : (t : Theory) (a b c d : Tree) (es : List Entry)
      → Fits es → All (λ e. IsOver t.operators e.term) es
      → Derived P t (Equation a b) → c ≡ instance_of es a → d ≡ instance_of es b → P t (Equation c d)
  pub equal : (t : Theory) (a b : Tree) (s : List ℕ)
      → Derived P t (Equation (equality s a b) truth) → P t (Equation a b)
  pub weaken : (t u : Theory) (s : Statement) → IsWellSortedTheory u → IsIncluded u t → Derived P u s → P t s
  pub fresh : (t : Theory) (a b c d : Tree) (cs : List PlainOperator) (vs : List Variable)
      → AreNew t cs → AreConstants cs → map (λ f. f.range) cs ≡ map (λ v. v.sort) vs
      → Derived P (extend t cs []) (Equation a b)
      → c ≡ free_constants cs vs a → d ≡ free_constants cs vs b → P t (Equation c d)
  pub cases : (t : Theory) (a b : Tree) (f : Tree)
      → IsTermOver t.operators f → sort_of f ≡ bool_sort → occurrences f ≡ []
      → Derived P (with_statements t (Equation f truth ∷ [])) (Equation a b)
      → Derived P (with_statements t (Equation f falsity ∷ [])) (Equation a b) → P t (Equation a b)
  pub induct : (t : Theory) (a b : Tree) (x s : List ℕ) (fs : List PlainOperator) (cs : ℕ → List PlainOperator)
      → Derived P t (Generated s fs) → IsStatementOver t.operators (Equation a b)
      → ((i : ℕ) (f : PlainOperator) → slice_get fs i ≡ Some f → AreArguments t f (cs i))
      → ((i : ℕ) (f : PlainOperator) → slice_get fs i ≡ Some f
      → Derived P (extend t (cs i) (induction_hypotheses x s a b (cs i)))
      (equation_at x s a b (app f (constant_terms (cs i)))))
      → P t (Equation a b)
  pub observe : (t : Theory) (a b : Tree) (s : List ℕ) (os : List PlainOperator) (names : ℕ → ℕ → List ℕ)
      → Derived P t (Partitioned s os) → IsStatementOver t.operators (Equation a b) → sort_of a ≡ s
      → ((i : ℕ) (w : Observation) → slice_get (observations_of s os) i ≡ Some w
      → AreApart (other_variables (names i) w) a b)
      → ((i : ℕ) (w : Observation) → slice_get (observations_of s os) i ≡ Some w
      → Derived P t (Equation (observer_term (names i) w a) (observer_term (names i) w b)))
      → P t (Equation a b)
  pub generated : (t : Theory) (s : List ℕ) (fs : List PlainOperator) (p : PlainOperator) (x : List ℕ)
      → IsStatementOver t.operators (Generated s fs) → AreNew t (p ∷ []) → p.domain ≡ s ∷ [] → p.range ≡ bool_sort
      → Derived P (extend t (p ∷ []) (generation_hypotheses p s fs)) (Equation (apply_one p (var x s)) truth)
      → P t (Generated s fs)
  pub partitioned : (t : Theory) (s : List ℕ) (os : List PlainOperator) (c d : PlainOperator)
      → IsStatementOver t.operators (Partitioned s os) → AreNew t (c ∷ d ∷ []) → AreConstants (c ∷ d ∷ [])
      → c.range ≡ s → d.range ≡ s
      → Derived P (extend t (c ∷ d ∷ []) (observations place_name s os (constant c) (constant d)))
      (Equation (constant c) (constant d))
      → P t (Partitioned s os)

-- a property that each rule keeps is one of all that is derivable
pub by_rules : (P : Theory → Statement → Type 0) → IsClosed P → {t : Theory} {s : Statement} → Derivable t s → P t s
by_rules P h {t} {s} (axiom_ c w) = h.axiom_ t s c w
by_rules P h {t} (identity {a} {b} i) = h.identity t a b i
by_rules P h {t} (reflexive {a} w) = h.reflexive t a w
by_rules P h {t} (symmetric {a} {b} d) = h.symmetric t a b (d, by_rules P h d)
by_rules P h {t} (replace {a} {b} {c} {u} {v} p d e f g) =
    h.replace t a b c u v p (d, by_rules P h d) (e, by_rules P h e) f g
by_rules P h {t} (instance {a} {b} {c} {d} es f o x p q) = h.instance t a b c d es f o (x, by_rules P h x) p q
by_rules P h {t} (equal {a} {b} s d) = h.equal t a b s (d, by_rules P h d)
by_rules P h {t} {s} (weaken {u} g i d) = h.weaken t u s g i (d, by_rules P h d)
by_rules P h {t} (fresh {a} {b} {c} {d} cs vs n k e x p q) =
    h.fresh t a b c d cs vs n k e (x, by_rules P h x) p q
by_rules P h {t} (cases {a} {b} f w s o d e) = h.cases t a b f w s o (d, by_rules P h d) (e, by_rules P h e)
by_rules P h {t} (induct {a} {b} x s fs cs d w k ds) =
    h.induct t a b x s fs cs (d, by_rules P h d) w k (λ i f e. (ds i f e, by_rules P h (ds i f e)))
by_rules P h {t} (observe {a} {b} s os names d w e k ds) =
    h.observe t a b s os names (d, by_rules P h d) w e k (λ i v e. (ds i v e, by_rules P h (ds i v e)))
by_rules P h {t} (generated {s} {fs} p x w n d r e) = h.generated t s fs p x w n d r (e, by_rules P h e)
by_rules P h {t} (partitioned {s} {os} c d w n k e f x) = h.partitioned t s os c d w n k e f (x, by_rules P h x)
