use Rattle.std.proofs.Common.{◌≡◌, All, map, take, Some}
use Rattle.larch_verify_meaning.specs.Context.{find_symbol}
use Rattle.larch_verify_meaning.specs.Decoding.{each, decode_equation}
use Rattle.larch_verify_pool.specs.Pooled.{Grows}
use Rattle.larch_verify_history.specs.Past.{IsEquated, equated_in, history_of}
use Rattle.larch_verify.proofs.boxes.decode_equations.Given as goal

abbrev pub invariant-loop-equation : goal.invariant-loop-equation
invariant-loop-equation l = record {
  grows : Grows l.fn.pool l.pool;
  within : All (IsEquated l.pool) l.decoded.items;
  says : each (decode_equation (find_symbol l.context.theory.now (history_of l.fn.pool l.context.past.now)))
      (take l.equation-index l.equations)
      ≡ Some (map (equated_in l.pool) l.decoded.items);
}
