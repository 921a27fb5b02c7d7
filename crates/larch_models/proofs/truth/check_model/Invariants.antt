use Rattle.std.proofs.Common.{◌≡◌, ◌+◌, drop}
use Rattle.larch_models_meaning.specs.FiniteModel.{first_failing, first_failing_from, interpretation_of}
use Rattle.larch_models.proofs.truth.check_model.Given as goal

abbrev pub invariant-loop-statement : goal.invariant-loop-statement
invariant-loop-statement l = record {
  same : first_failing_from l.number (interpretation_of l.model) (drop l.statement-index l.theory.statements)
      ≡ first_failing (interpretation_of l.model) l.theory.statements;
  number : l.number ≡ l.statement-index + 1;
}
