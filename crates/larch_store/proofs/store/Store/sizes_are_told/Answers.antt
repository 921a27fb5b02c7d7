use Rattle.std.specs.Map.{keys_of}
use Rattle.larch_store.specs.Layers.{shared_in}
use Rattle.larch_store.proofs.Within.{size_within, small_within, nodes_within}
use Rattle.larch_store.proofs.store.Store.sizes_are_told.Goals as goal

pub returns-clause-one : goal.returns-clause-one
returns-clause-one c =
    size_within (keys_of c.self.inside.entries) (shared_in c.self.inside.entries) c.args.self.now c.self.view_is
    c.self.invariant

pub returns-clause-small : goal.returns-clause-small
returns-clause-small c =
    small_within (keys_of c.self.inside.entries) (shared_in c.self.inside.entries) c.args.self.now c.self.view_is
    c.self.invariant

pub returns-clause-all : goal.returns-clause-all
returns-clause-all c =
    λ f xs. nodes_within (keys_of c.self.inside.entries) (shared_in c.self.inside.entries) c.args.self.now f xs
    c.self.view_is
    c.self.invariant
