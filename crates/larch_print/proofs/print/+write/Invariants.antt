use Rattle.std.proofs.Common.{◌≡◌, ◌+◌, ◌*◌, ◌++◌, ◌≤◌, ◌-◌, ◌==◌, cond, drop, length, codes, false, sum_by}
use Rattle.std.specs.List.{flat_map, join_by}
use Rattle.larch_print.specs.Print.{fill_name, pieces_of}
use Rattle.larch_term.specs.Tree.{forest_of, nodes}
use Rattle.larch_print.proofs.print.+write.Given as goal

-- what is written and what is left to write are all
abbrev pub invariant-write_filled-loop-at : goal.invariant-write_filled-loop-at
invariant-write_filled-loop-at l = record {
  whole : l.text ++ fill_name l.inside (drop l.at l.name) (pieces_of (forest_of (drop l.next l.arguments)))
      ≡ l.initial.text ++ fill_name false l.name (pieces_of (forest_of l.arguments));
  few : l.next ≤ l.at;
  within : l.at ≤ length l.name;
}

abbrev pub invariant-write_list-loop-i : goal.invariant-write_list-loop-i
invariant-write_list-loop-i l =
    l.text ++ cond (l.i == 0) (join_by (λ p. p.text) (codes ", ") (pieces_of (forest_of (drop l.i l.arguments))))
    (flat_map (λ p. codes ", " ++ p.text) (pieces_of (forest_of (drop l.i l.arguments))))
    ≡ l.initial.text ++ join_by (λ p. p.text) (codes ", ") (pieces_of (forest_of l.arguments))

abbrev pub decreases-write_filled-loop-at : goal.decreases-write_filled-loop-at
decreases-write_filled-loop-at l = length l.name - l.at

-- a term has more nodes than its arguments together
abbrev pub decreases-write_term : goal.decreases-write_term
decreases-write_term l = 4 * nodes l.term.now

abbrev pub decreases-write_list : goal.decreases-write_list
decreases-write_list l = 4 * sum_by nodes l.arguments.now + 3

abbrev pub decreases-write_filled : goal.decreases-write_filled
decreases-write_filled l = 4 * sum_by nodes l.arguments.now + 3

abbrev pub decreases-write_placed : goal.decreases-write_placed
decreases-write_placed l = 4 * sum_by nodes l.arguments.now + 2
