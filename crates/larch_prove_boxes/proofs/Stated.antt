-- The clause that a number names is stated, and of a well sorted theory.
use Rattle.std.specs.Prelude.{◌≡◌, ℕ, List, ◌∷◌, Option, Some, option_map}
use Rattle.std.specs.List.{slice_get}
use Rattle.std.proofs.Common.{ap, subst, ◌∙◌}
use Rattle.std.proofs.lemmas.List.Elements.{All-cons, All-contains}
use Rattle.larch_base.proofs.Members.{got_contains}
use Rattle.larch_term.specs.Operator.{PlainOperator}
use Rattle.larch_term.specs.Statement.{IsStatementOver, IsWellSortedTheory, statement_zero}
use Rattle.larch_term.specs.declared.statement.Statement.{Statement}
use Rattle.larch_term.specs.declared.statement.Theory.{Theory}
use Rattle.larch_calculus.proofs.Sorted.{zero_over}
use Rattle.larch_derive.specs.Builder.{theory_in}
use Rattle.larch_derive.specs.declared.builder.Builder.{Builder}
use Rattle.larch_prove_invariant.specs.MethodsMethods.{IsStated}

pub stated : (b : Builder) (t : Theory) (clause : ℕ) (s : Statement) → t ≡ theory_in b → IsWellSortedTheory t
    → slice_get (statement_zero ∷ t.statements) clause ≡ Some s → IsStated b clause s
stated b t clause s e w q = record {
  found = subst (λ (u : Theory). slice_get (statement_zero ∷ u.statements) clause ≡ Some s) e q;
  over = subst (λ (u : Theory). IsStatementOver u.operators s) e
      (All-contains (IsStatementOver t.operators) (statement_zero ∷ t.statements) s
      (All-cons (IsStatementOver t.operators) statement_zero t.statements (zero_over t.operators) w)
      (got_contains (statement_zero ∷ t.statements) clause s q));
}

-- by the operators that were found for it
pub stated_found : (b : Builder) (t : Theory) (clause : ℕ) (F : List PlainOperator → Statement)
    (found : Option (List PlainOperator)) (fs : List PlainOperator) → t ≡ theory_in b → IsWellSortedTheory t
    → slice_get (statement_zero ∷ t.statements) clause ≡ option_map F found → found ≡ Some fs
    → IsStated b clause (F fs)
stated_found b t clause F found fs e w q f = stated b t clause (F fs) e w (q ∙ ap (option_map F) f)
