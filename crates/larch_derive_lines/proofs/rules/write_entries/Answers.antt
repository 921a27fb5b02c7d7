use Rattle.larch_derive_lines.proofs.Instances.{written_step}
use Rattle.larch_derive_lines.proofs.rules.write_entries.Goals as goal

pub loop-entry-preserved : goal.loop-entry-preserved
loop-entry-preserved c =
    rw c.in_ok-push.ensures.ok
    (written_step c.args.builder.now c.args.entries.now c.loop-entry.entry-index c.loop-entry.bindings
    c.entry-item.result c.in_ok-binding.binding c.loop-entry-test.true c.entry-item.is c.loop-entry.invariant
    c.in_ok-binding.ensures.name c.in_ok-binding.ensures.sort c.in_ok-binding.ensures.term)
