use Rattle.larch_store.proofs.Layered.{next_absent, next_put}
use Rattle.larch_store.proofs.layer.Layer.put_all.Goals as goal

pub put_copy-requires : goal.put_copy-requires
put_copy-requires c =
    next_absent c.args.self.now c.args.others.now c.others.inside.entries.entries c.loop-index.self c.loop-index.index
    c.in-Some.key.now c.in-Some.shared.now c.requires c.in-Some.ensures.entry c.others.view_is c.loop-index.invariant

pub loop-index-preserved : goal.loop-index-preserved
loop-index-preserved c =
    next_put c.args.self.now c.args.others.now c.others.inside.entries.entries c.loop-index.self c.put_copy.new.self
    c.loop-index.index c.in-Some.key.now c.in-Some.shared.now c.in-Some.ensures.entry c.others.view_is
    c.loop-index.invariant c.in_ok-put_copy.ensures
