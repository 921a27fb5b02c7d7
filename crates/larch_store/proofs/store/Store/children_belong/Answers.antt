use Rattle.std.specs.Map.{keys_of}
use Rattle.larch_store.specs.Layers.{shared_in}
use Rattle.larch_store.proofs.Within.{children_within}
use Rattle.larch_store.proofs.store.Store.children_belong.Goals as goal

pub returns : goal.returns
returns c =
    children_within (keys_of c.self.inside.entries) (shared_in c.self.inside.entries) c.args.self.now c.self.view_is
    c.self.invariant
