use Rattle.std.proofs.Common.{◌≡◌, ◌+◌, ◌*◌, take, drop, map, sum_by}
use Rattle.larch_raw.specs.RawTree.{raw_nodes, raw_forest}
use Rattle.larch_sorts_signature.specs.SortsMeaningRead.{unread_in}
use Rattle.larch_sorts_signature.specs.SortsMeaningParts.{parts_of}
use Rattle.larch_sorts.specs.Tabulate.{AllTell}
use Rattle.larch_sorts.proofs.tabulate.+tabulate.Given as goal

-- the nodes that are left
abbrev pub decreases-table_of : goal.decreases-table_of
decreases-table_of l = 3 * raw_nodes l.raw.now + 1

abbrev pub decreases-table_from_parts : goal.decreases-table_from_parts
decreases-table_from_parts l = 3 * raw_nodes l.raw.now

abbrev pub decreases-tables_of : goal.decreases-tables_of
decreases-tables_of l = 3 * sum_by raw_nodes l.arguments.now + 2

-- the tables so far tell what their terms read as, and nothing is unread before those that are left
abbrev pub invariant-tables_of-loop-argument : goal.invariant-tables_of-loop-argument
invariant-tables_of-loop-argument l =
    AllTell l.signature l.scope (map (λ t. t.found.value.entries) l.tables) (take l.argument-index l.argument-items)
    × (unread_in l.signature l.scope (parts_of (raw_forest (drop l.argument-index l.argument-items)))
    ≡ unread_in l.signature l.scope (parts_of (raw_forest l.arguments)))
