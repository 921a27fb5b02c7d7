use Rattle.larch_sorts.specs.Sides.{sides_found}
use Rattle.larch_sorts_signature.specs.Table.{sorts_in}
use Rattle.larch_sorts.proofs.SidesTold.{first_enough}
use Rattle.larch_sorts.proofs.sides.sides_among.Goals as goal

pub returns-then-are_several : goal.returns-then-are_several
returns-then-are_several c =
    first_enough c.args.left.now.found.value.entries c.args.right.now.found.value.entries
    (sides_found c.args.left.now.found.value.entries c.args.right.now.found.value.entries
    (sorts_in c.args.sorts.now.found.value.entries))
    c.loop-sort.found c.in_ok-now.now c.with_sides-found.result c.in-Some.sort.now c.loop-sort.sort-iterator
    c.next.new.self c.in-Some.ensures.steps c.in_ok-now.ensures c.with_sides-found.ensures
    (c.are_several.ensures c.if-are_several.true) c.loop-sort.invariant
