use Rattle.std.proofs.Common.{◌≡◌, take, Some}
use Rattle.larch_verify_meaning.specs.Context.{find_symbol}
use Rattle.larch_verify_meaning.specs.Decoding.{each, decode_binding}
use Rattle.larch_verify_pool.specs.Pooled.{Grows}
use Rattle.larch_verify_pool.specs.Substitution.{AreBindings, entries_of}
use Rattle.larch_verify_history.specs.Past.{history_of}
use Rattle.larch_verify_rules.proofs.inst.decode_bindings.Given as goal

abbrev pub invariant-loop-binding : goal.invariant-loop-binding
invariant-loop-binding l = record {
  grows : Grows l.fn.pool l.pool;
  within : AreBindings l.pool.trees l.by.items;
  says : each (decode_binding (find_symbol l.context.theory.now (history_of l.fn.pool l.context.past.now)))
      (take l.binding-index l.bindings) ≡ Some (entries_of l.pool.trees l.by.items);
}
