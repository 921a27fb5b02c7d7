use Rattle.larch_rewrite_step.proofs.Written.{bound_more}
use Rattle.larch_rewrite_step.proofs.writing.write_bound.Goals as goal

pub loop-binding-preserved : goal.loop-binding-preserved
loop-binding-preserved c = record {
  belong = c.write_binding.ensures.belong;
  encodings = λ h. c.write_binding.ensures.encodings (c.loop-binding.invariant.encodings h);
  written = λ h.
      bound_more c.args.builder.now c.args.bound.now _ _ _ _ _ c.loop-binding-test.true c.binding-item.is
      c.in_ok-push.ensures.ok (c.loop-binding.invariant.written h) c.in_ok-written.ensures.name
      c.in_ok-written.ensures.sort (c.in_ok-written.ensures.term (c.loop-binding.invariant.encodings h));
}
