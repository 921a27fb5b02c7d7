use Rattle.std.proofs.Common.{◌≡◌, map, take}
use Rattle.larch_verify_pool.specs.Substitution.{AreBindings, entries_of}
use Rattle.larch_verify_clause_rules.specs.Observers.{variables_in, truth_for}
use Rattle.larch_verify_clause_rules.proofs.unbound.closing.Given as goal

abbrev pub invariant-loop-variable : goal.invariant-loop-variable
invariant-loop-variable l = record {
  bindings : AreBindings l.pool.trees l.by.items;
  entries : entries_of l.pool.trees l.by.items
      ≡ map truth_for (variables_in l.fn.pool.trees (take l.variable-index l.variables));
}
