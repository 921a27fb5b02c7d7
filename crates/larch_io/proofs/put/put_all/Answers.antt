use Rattle.std.proofs.Common.{rules, arith, length-drop}
use Rattle.std.proofs.lemmas.List.{take_rest}
use Rattle.larch_io.proofs.Known.{front_and_more}
use Rattle.larch_io.proofs.put.put_all.Goals as goal

pub loop-put-preserved : goal.loop-put-preserved
loop-put-preserved g c = record {
  within = omega (arith, c.in_ok-put.ensures.count, length-drop c.loop-put.put c.args.bytes.now);
  appended =
      front_and_more _ _ _ c.loop-put.put c.in_ok-put.field-0 c.args.bytes.now c.loop-put.invariant.appended
      (rw take_rest at c.in_ok-put.ensures.bytes);
  fine = search rules;
}
