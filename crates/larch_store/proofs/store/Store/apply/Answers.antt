use Rattle.std.proofs.Common.{◌≡◌, ◌+◌, ◌<◌, ◌≤◌, sum_by, arith}
use Rattle.larch_store.specs.Numbered.{size_of}
use Rattle.larch_store.specs.Stored.{most_nodes}
use Rattle.larch_store.proofs.store.Store.apply.Goals as goal

pub returns-in_default-clause-refused : goal.returns-in_default-clause-refused
returns-in_default-clause-refused c =
    let e = c.sizes_are_told.ensures.all c.args.operator.now c.args.children.now c.requires in
    let n : most_nodes < 1 + sum_by size_of c.args.children.now = rw c.as_slice.ensures at c.in_default.ensures.none in
    omega (arith, e, n)

pub returns-clause-small : goal.returns-clause-small
returns-clause-small c =
    let e = c.sizes_are_told.ensures.all c.args.operator.now c.args.children.now c.requires in
    let m : (c.in-Some.size ≡ 1 + sum_by size_of c.args.children.now) × (c.in-Some.size ≤ most_nodes) =
    rw c.as_slice.ensures at c.in-Some.ensures.some in
    omega (arith, e, m.0, m.1)
