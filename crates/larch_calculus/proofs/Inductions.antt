-- Inductions with the constants of their cases as a list.
use Rattle.std.proofs.Common.{◌≡◌, ℕ, zero, suc, List, [], ◌∷◌, length, Some, unwrap_or, refl, arith}
use Rattle.std.specs.List.{slice_get}
use Rattle.larch_term.specs.Operator.{PlainOperator}
use Rattle.larch_term.specs.Statement.{IsStatementOver}
use Rattle.larch_term.specs.Tree.{Tree, app}
use Rattle.larch_term.specs.declared.statement.Statement.TheVariants.{Equation, Generated}
use Rattle.larch_term.specs.declared.statement.Theory.{Theory}
use Rattle.larch_calculus.specs.Theories.{extend}
use Rattle.larch_calculus.specs.Generation.{constant_terms, equation_at, induction_hypotheses}
use Rattle.larch_calculus.specs.Derivable.{Derivable, AreArguments, induct}

-- where a list of the same length has something, this one has too
got_there : (fs : List PlainOperator) (css : List (List PlainOperator)) (i : ℕ) (f : PlainOperator)
    → length css ≡ length fs
    → slice_get fs i ≡ Some f → slice_get css i ≡ Some (unwrap_or (slice_get css i) [])
got_there [] css i f e h = cc
got_there (g ∷ fs) [] i f e h = absurd (omega arith)
got_there (g ∷ fs) (cs ∷ css) zero f e h = refl
got_there (g ∷ fs) (cs ∷ css) (suc i) f e h = got_there fs css i f (omega arith) h

-- an induction whose cases have these constants, in the order of the generators
pub inducted : (t : Theory) (a b : Tree) (x s : List ℕ) (fs : List PlainOperator) (css : List (List PlainOperator))
    → length css ≡ length fs
    → Derivable t (Generated s fs) → IsStatementOver t.operators (Equation a b)
    →
    ((i : ℕ) (f : PlainOperator) (cs : List PlainOperator) → slice_get fs i ≡ Some f → slice_get css i ≡ Some cs
    → AreArguments t f cs)
    → ((i : ℕ) (f : PlainOperator) (cs : List PlainOperator) → slice_get fs i ≡ Some f → slice_get css i ≡ Some cs
    → Derivable (extend t cs (induction_hypotheses x s a b cs)) (equation_at x s a b (app f (constant_terms cs))))
    → Derivable t (Equation a b)
inducted t a b x s fs css e d w k h =
    induct x s fs (λ i. unwrap_or (slice_get css i) []) d w
    (λ i f p. k i f (unwrap_or (slice_get css i) []) p (got_there fs css i f e p))
    (λ i f p. h i f (unwrap_or (slice_get css i) []) p (got_there fs css i f e p))
