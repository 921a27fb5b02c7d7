use Rattle.std.proofs.Common.{◌≡◌, ◌+◌, ◌*◌, ◌≤◌, ◌||◌, not, length, take, drop}
use Rattle.std.specs.List.{list_all, sum_by}
use Rattle.larch_term.specs.Tree.{forest_of, nodes}
use Rattle.larch_order.specs.Greater.{greater, some_reaches, some_beats, remains}
use Rattle.larch_order.proofs.precedence.Precedence.+compare.Given as goal

abbrev pub decreases-compare : goal.decreases-compare
decreases-compare l = 3 * (nodes l.left.now + nodes l.right.now) + 2

abbrev pub decreases-compare_from_left : goal.decreases-compare_from_left
decreases-compare_from_left l = 3 * (nodes l.left.now + nodes l.right.now) + 1

abbrev pub decreases-compare_from_right : goal.decreases-compare_from_right
decreases-compare_from_right l = 3 * (nodes l.left.now + nodes l.right.now) + 1

abbrev pub decreases-multiset_greater : goal.decreases-multiset_greater
decreases-multiset_greater l = 3 * (sum_by nodes l.terms.now + sum_by nodes l.others.now) + 7

abbrev pub decreases-some_beats : goal.decreases-some_beats
decreases-some_beats l = 3 * (sum_by nodes l.terms.now + nodes l.other.now) + 3

abbrev pub decreases-some_reaches : goal.decreases-some_reaches
decreases-some_reaches l = 3 * (sum_by nodes l.terms.now + nodes l.other.now) + 3

abbrev pub decreases-is_above_all : goal.decreases-is_above_all
decreases-is_above_all l = 3 * (nodes l.term.now + sum_by nodes l.others.now) + 3

-- the places so far have equal terms
abbrev pub invariant-compare_from_left-loop-i : goal.invariant-compare_from_left-loop-i
invariant-compare_from_left-loop-i l = take l.i l.terms ≡ take l.i l.others

-- the places from here on have equal terms
abbrev pub invariant-compare_from_right-loop-i : goal.invariant-compare_from_right-loop-i
invariant-compare_from_right-loop-i l = (drop l.i l.terms ≡ drop l.i l.others) × (l.i ≤ length l.terms)

abbrev pub decreases-compare_from_right-loop-i : goal.decreases-compare_from_right-loop-i
decreases-compare_from_right-loop-i l = l.i

-- the terms that are left decide
abbrev pub invariant-is_above_all-loop-other : goal.invariant-is_above_all-loop-other
invariant-is_above_all-loop-other l =
    list_all (greater l.self l.term) (drop l.other-index l.others) ≡ list_all (greater l.self l.term) l.others

abbrev pub invariant-multiset_greater-loop-other : goal.invariant-multiset_greater-loop-other
invariant-multiset_greater-loop-other l =
    list_all (λ u. not (remains l.others l.terms u) || some_beats l.self (forest_of l.terms) l.terms l.others u)
    (drop l.other-index l.others)
    ≡ list_all (λ u. not (remains l.others l.terms u) || some_beats l.self (forest_of l.terms) l.terms l.others u)
    l.others

abbrev pub invariant-some_beats-loop-term : goal.invariant-some_beats-loop-term
invariant-some_beats-loop-term l =
    some_beats l.self (forest_of (drop l.term-index l.terms)) l.terms l.others l.other
    ≡ some_beats l.self (forest_of l.terms) l.terms l.others l.other

abbrev pub invariant-some_reaches-loop-term : goal.invariant-some_reaches-loop-term
invariant-some_reaches-loop-term l =
    some_reaches l.self (forest_of (drop l.term-index l.terms)) l.other
    ≡ some_reaches l.self (forest_of l.terms) l.other
