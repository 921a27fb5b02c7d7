use Rattle.std.proofs.Common.{◌≡◌, ◌≤◌, ◌*◌, drop}
use Rattle.larch_models_meaning.specs.FiniteModel.{assignment_count, last_among}
use Rattle.larch_models_meaning.specs.Standard.{standard_last}
use Rattle.larch_models.proofs.truth.are_few.Given as goal

abbrev pub invariant-loop-variable : goal.invariant-loop-variable
invariant-loop-variable l = record {
  product : l.count * assignment_count (standard_last (last_among l.sorts)) (drop l.variable-index l.variables)
      ≡ assignment_count (standard_last (last_among l.sorts)) l.variables;
  few : l.count ≤ 1000000;
}
