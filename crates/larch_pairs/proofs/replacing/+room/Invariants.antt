use Rattle.std.proofs.Common.{◌≡◌, ◌<◌, ◌*◌, ◌+◌, ◌-◌, ◌^◌, drop, sum_by}
use Rattle.larch_term.specs.Substitution.{substituted_all}
use Rattle.larch_term.specs.Tree.{forest_of, nodes, nodes_all}
use Rattle.larch_pairs.proofs.replacing.+room.Given as goal

abbrev pub decreases-room_behind : goal.decreases-room_behind
decreases-room_behind l = 2 * nodes l.term.now

abbrev pub decreases-room_behind_all : goal.decreases-room_behind_all
decreases-room_behind_all l = 2 * sum_by nodes l.terms.now + 1

-- the room behind the terms so far, against that before all
abbrev pub invariant-room_behind_all-loop-term : goal.invariant-room_behind_all-loop-term
invariant-room_behind_all-loop-term l =
    (l.left + nodes_all (substituted_all l.by (forest_of l.terms))
    ≡ l.fn.room + nodes_all (substituted_all l.by (forest_of (drop l.term-index l.terms))))
    × (l.left < 2 ^ 64 - 1)
