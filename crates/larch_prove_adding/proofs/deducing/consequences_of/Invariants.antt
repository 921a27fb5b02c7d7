use Rattle.std.specs.Prelude.{◌+◌, ◌<◌, ℕ, List}
use Rattle.larch_derive.specs.Predicates.{Extends}
use Rattle.larch_prove_invariant.specs.DeriveFormulasConsequences.{Follows}
use Rattle.larch_prove_adding.proofs.deducing.consequences_of.Given as goal
use Rattle.larch_term.specs.declared.statement.Statement.{Statement}
use Rattle.larch_term.specs.declared.statement.Statement.TheVariants.{Equation}

-- nothing follows by the rows so far
abbrev pub invariant-loop-index : goal.invariant-loop-index
invariant-loop-index l = record {
  extends : Extends l.fn.builder l.builder;
  none : (n : ℕ) → n < l.index → (es : List Statement)
      → Follows (n + 1) (Equation l.equation.left l.equation.right) es → ⊥;
}
