-- The cases of a comparison.
use Rattle.std.proofs.Common.{◌+◌, ◌-◌, sym, ◌∙◌, ap, arith}
use Rattle.std.specs.List.{list_all}
use Rattle.std.proofs.lemmas.List.{take_rest}
use Rattle.std.proofs.lemmas.List.Folds.{list_all_at}
use Rattle.std.proofs.lemmas.List.Sums.{sum_by-take-le}
use Rattle.larch_term.specs.Tree.{app, forest_of, nodes}
use Rattle.larch_term.specs.TermView.{view_node}
use Rattle.larch_base.specs.declared.way.Way.TheVariants.{LeftToRight, RightToLeft, Multiset}
use Rattle.larch_order.specs.Greater.{greater, some_reaches, some_beats}
use Rattle.larch_term.proofs.Decided.{trees_told}
use Rattle.larch_order.proofs.Ordering.{parts_fall}
use Rattle.larch_order.proofs.Comparing.{stands_same, stands_to_variable, higher_stands, other_stands, one_head}
use Rattle.larch_order.proofs.Comparing.{left_falls, right_falls, item_falls, rest_falls, not_greater_told}
use Rattle.larch_order.proofs.FromLeft.{above_at, neither_at, same_more, past_at, ended_at, short_at}
use Rattle.larch_order.proofs.FromRight.{above_from, neither_from, same_back, all_same, uneven}
use Rattle.larch_order.proofs.AsMultisets.{multisets, beats_past, not_remaining, not_greater}
use Rattle.larch_order.proofs.precedence.Precedence.+compare.Goals as goal
use Rattle.larch_order.proofs.precedence.Precedence.+compare.Goals.{compare-then-is_above, compare-else-is_above}
use Rattle.larch_order.proofs.precedence.Precedence.+compare.Goals.{some_beats-else-remains-via-then-remains+else-is_above}
use Rattle.larch_order.proofs.precedence.Precedence.+compare.Goals.{some_beats-else-remains-via-else-remains}

pub compare-some_reaches-requires : goal.compare-some_reaches-requires
compare-some_reaches-requires t c =
    let l = ap (λ ts. app c.in-App.operator (forest_of ts)) c.as_slice-terms.ensures ∙ sym (ap view_node c.in-App.is)
    ∙ c.node.ensures in
    let p = parts_fall c.in-App.operator c.as_slice-terms.result.now c.args.left.now l in
    (omega (arith, p, c.decreases), tt)

pub compare-returns-in_default-node : goal.compare-returns-in_default-node
compare-returns-in_default-node t c =
    let l = ap (λ ts. app c.in-App.operator (forest_of ts)) c.as_slice-terms.ensures ∙ sym (ap view_node c.in-App.is)
    ∙ c.node.ensures in
    let r = sym (ap view_node c.in_default-node.is) ∙ c.node-2.ensures in
    c.above_if.ensures
    ∙ stands_to_variable c.args.self.now c.in-App.operator c.as_slice-terms.result.now c.in_default-node.field-0
    c.in_default-node.field-1 c.args.left.now c.args.right.now c.some_reaches.result l r c.some_reaches.ensures

pub compare-is_above_all-above-requires : goal.compare-is_above_all-above-requires
compare-is_above_all-above-requires t c =
    let r = ap (λ ts. app c.in-App-node.other (forest_of ts)) c.as_slice-others.ensures
    ∙ sym (ap view_node c.in-App-node.is) ∙ c.node-2.ensures in
    let q = parts_fall c.in-App-node.other c.as_slice-others.result.now c.args.right.now r in
    (omega (arith, q, c.decreases), tt)

pub compare-some_reaches-above-requires : goal.compare-some_reaches-above-requires
compare-some_reaches-above-requires t c =
    let l = ap (λ ts. app c.in-App.operator (forest_of ts)) c.as_slice-terms.ensures ∙ sym (ap view_node c.in-App.is)
    ∙ c.node.ensures in
    let p = parts_fall c.in-App.operator c.as_slice-terms.result.now c.args.left.now l in
    (omega (arith, p, c.decreases), tt)

pub compare-returns : goal.compare-returns
compare-returns t c =
    let l = ap (λ ts. app c.in-App.operator (forest_of ts)) c.as_slice-terms.ensures ∙ sym (ap view_node c.in-App.is)
    ∙ c.node.ensures in
    let r = ap (λ ts. app c.in-App-node.other (forest_of ts)) c.as_slice-others.ensures
    ∙ sym (ap view_node c.in-App-node.is) ∙ c.node-2.ensures in
    let d = sym c.eq.ensures ∙ c.if-eq.false in
    c.above_if-2.ensures
    ∙ elim c.if-is_above.branch [
      | compare-then-is_above w ↦
          higher_stands c.args.self.now c.in-App.operator c.in-App-node.other c.as_slice-terms.result.now
          c.as_slice-others.result.now c.args.left.now c.args.right.now c.if-is_above.above l r d
          (sym c.is_above.ensures ∙ w.if-is_above.true) (w.above-is ∙ w.is_above_all-above.ensures)
      | compare-else-is_above w ↦
          other_stands c.args.self.now c.in-App.operator c.in-App-node.other c.as_slice-terms.result.now
          c.as_slice-others.result.now c.args.left.now c.args.right.now c.if-is_above.above l r d
          (sym c.is_above.ensures ∙ w.if-is_above.false) (w.above-is ∙ w.some_reaches-above.ensures)
    ]

pub compare-compare_from_left-requires : goal.compare-compare_from_left-requires
compare-compare_from_left-requires t c =
    let l = ap (λ ts. app c.in-App.operator (forest_of ts)) c.as_slice-terms.ensures ∙ sym (ap view_node c.in-App.is)
    ∙ c.node.ensures in
    let r = ap (λ ts. app c.in-App-node.other (forest_of ts)) c.as_slice-others.ensures
    ∙ sym (ap view_node c.in-App-node.is) ∙ c.node-2.ensures in (
      omega (arith, c.decreases),
      one_head c.args.self.now c.in-App.operator c.in-App-node.other c.as_slice-terms.result.now
          c.as_slice-others.result.now c.args.left.now c.args.right.now c.eq.result c.status.result LeftToRight l r
          c.eq.ensures c.if-eq.true c.status.ensures c.in-LeftToRight.is,
    )

pub compare-compare_from_right-requires : goal.compare-compare_from_right-requires
compare-compare_from_right-requires t c =
    let l = ap (λ ts. app c.in-App.operator (forest_of ts)) c.as_slice-terms.ensures ∙ sym (ap view_node c.in-App.is)
    ∙ c.node.ensures in
    let r = ap (λ ts. app c.in-App-node.other (forest_of ts)) c.as_slice-others.ensures
    ∙ sym (ap view_node c.in-App-node.is) ∙ c.node-2.ensures in (
      omega (arith, c.decreases),
      one_head c.args.self.now c.in-App.operator c.in-App-node.other c.as_slice-terms.result.now
          c.as_slice-others.result.now c.args.left.now c.args.right.now c.eq.result c.status.result RightToLeft l r
          c.eq.ensures c.if-eq.true c.status.ensures c.in-RightToLeft.is,
    )

pub compare-multiset_greater-requires : goal.compare-multiset_greater-requires
compare-multiset_greater-requires t c =
    let l = ap (λ ts. app c.in-App.operator (forest_of ts)) c.as_slice-terms.ensures ∙ sym (ap view_node c.in-App.is)
    ∙ c.node.ensures in
    let r = ap (λ ts. app c.in-App-node.other (forest_of ts)) c.as_slice-others.ensures
    ∙ sym (ap view_node c.in-App-node.is) ∙ c.node-2.ensures in
    let p = parts_fall c.in-App.operator c.as_slice-terms.result.now c.args.left.now l in
    let q = parts_fall c.in-App-node.other c.as_slice-others.result.now c.args.right.now r in
    (omega (arith, p, q, c.decreases), tt)

pub compare-returns-in-Multiset : goal.compare-returns-in-Multiset
compare-returns-in-Multiset t c =
    stands_same c.args.self.now c.args.left.now c.args.right.now (c.same_term.ensures.0 c.if-same_term.true)

pub compare-returns-in-Multiset-2 : goal.compare-returns-in-Multiset-2
compare-returns-in-Multiset-2 t c =
    let l = ap (λ ts. app c.in-App.operator (forest_of ts)) c.as_slice-terms.ensures ∙ sym (ap view_node c.in-App.is)
    ∙ c.node.ensures in
    let r = ap (λ ts. app c.in-App-node.other (forest_of ts)) c.as_slice-others.ensures
    ∙ sym (ap view_node c.in-App-node.is) ∙ c.node-2.ensures in
    let h =
    one_head c.args.self.now c.in-App.operator c.in-App-node.other c.as_slice-terms.result.now
    c.as_slice-others.result.now c.args.left.now c.args.right.now c.eq.result c.status.result Multiset l r
    c.eq.ensures c.if-eq.true c.status.ensures c.in-Multiset-2.is in
    c.above_if-in-Multiset-2.ensures
    ∙ multisets c.args.self.now c.as_slice-terms.result.now c.as_slice-others.result.now c.args.left.now
    c.args.right.now c.multiset_greater.result h
    (sym (trees_told c.args.left.now c.args.right.now c.same_term.result c.same_term.ensures) ∙ c.if-same_term.false)
    c.multiset_greater.ensures

pub compare_from_left-some_reaches-requires : goal.compare_from_left-some_reaches-requires
compare_from_left-some_reaches-requires t c =
    let p =
    left_falls c.args.self.now c.args.left.now c.args.right.now c.args.terms.now c.args.others.now LeftToRight
    c.requires in
    let r = rest_falls c.args.terms.now c.loop-i.i in
    (omega (arith, p, r, c.decreases), tt)

pub compare_from_left-returns-then-i-others : goal.compare_from_left-returns-then-i-others
compare_from_left-returns-then-i-others t c =
    let r =
    ap (λ l. some_reaches c.args.self.now (forest_of l) c.args.right.now) (take_rest c.args.terms.now c.loop-i.i) in
    c.above_if.ensures
    ∙ past_at c.args.self.now c.args.terms.now c.args.others.now c.args.left.now c.args.right.now c.loop-i.i
    c.some_reaches.result c.requires c.loop-i.invariant c.loop-i-test.true c.if-i-others.true
    (c.some_reaches.ensures ∙ r)

pub compare_from_left-compare-requires : goal.compare_from_left-compare-requires
compare_from_left-compare-requires t c =
    let p =
    left_falls c.args.self.now c.args.left.now c.args.right.now c.args.terms.now c.args.others.now LeftToRight
    c.requires in
    let q =
    right_falls c.args.self.now c.args.left.now c.args.right.now c.args.terms.now c.args.others.now LeftToRight
    c.requires in
    let a = item_falls c.args.terms.now c.loop-i.i c.index-terms-i.result c.index-terms-i.is c.loop-i-test.true in
    let b = item_falls c.args.others.now c.loop-i.i c.index-others-i.result c.index-others-i.is c.if-i-others.false in
    (omega (arith, p, q, a, b, c.decreases), tt)

pub compare_from_left-is_above_all-requires : goal.compare_from_left-is_above_all-requires
compare_from_left-is_above_all-requires t c =
    let q =
    right_falls c.args.self.now c.args.left.now c.args.right.now c.args.terms.now c.args.others.now LeftToRight
    c.requires in
    let r = rest_falls c.args.others.now (c.loop-i.i + 1) in
    (omega (arith, q, r, c.decreases), tt)

pub compare_from_left-returns-in-Above : goal.compare_from_left-returns-in-Above
compare_from_left-returns-in-Above t c =
    c.above_if-in-Above.ensures
    ∙ above_at c.args.self.now c.args.terms.now c.args.others.now c.args.left.now c.args.right.now
    c.index-terms-i.result c.index-others-i.result c.loop-i.i c.is_above_all.result c.requires c.loop-i.invariant
    c.loop-i-test.true (omega (arith, c.if-i-others.false)) c.index-terms-i.is c.index-others-i.is
    (sym c.in-Above.is ∙ c.compare.ensures)
    (c.is_above_all.ensures ∙ ap (list_all (greater c.args.self.now c.args.left.now))
    (take_rest c.args.others.now (c.loop-i.i + 1)))

pub compare_from_left-some_reaches-requires-in-Neither : goal.compare_from_left-some_reaches-requires-in-Neither
compare_from_left-some_reaches-requires-in-Neither t c =
    let p =
    left_falls c.args.self.now c.args.left.now c.args.right.now c.args.terms.now c.args.others.now LeftToRight
    c.requires in
    let r = rest_falls c.args.terms.now (c.loop-i.i + 1) in
    (omega (arith, p, r, c.decreases), tt)

pub compare_from_left-returns-in-Neither : goal.compare_from_left-returns-in-Neither
compare_from_left-returns-in-Neither t c =
    c.above_if-in-Neither.ensures
    ∙ neither_at c.args.self.now c.args.terms.now c.args.others.now c.args.left.now c.args.right.now
    c.index-terms-i.result c.index-others-i.result c.loop-i.i c.some_reaches-in-Neither.result c.requires
    c.loop-i.invariant
    c.loop-i-test.true (omega (arith, c.if-i-others.false)) c.index-terms-i.is c.index-others-i.is
    (sym c.in-Neither.is ∙ c.compare.ensures)
    (c.some_reaches-in-Neither.ensures
    ∙ ap (λ l. some_reaches c.args.self.now (forest_of l) c.args.right.now)
    (take_rest c.args.terms.now (c.loop-i.i + 1)))

pub compare_from_left-loop-i-preserved : goal.compare_from_left-loop-i-preserved
compare_from_left-loop-i-preserved t c =
    same_more c.args.self.now c.args.terms.now c.args.others.now c.index-terms-i.result c.index-others-i.result
    c.loop-i.i c.loop-i.invariant c.loop-i-test.true (omega (arith, c.if-i-others.false))
    c.index-terms-i.is c.index-others-i.is (sym c.in-Same.is ∙ c.compare.ensures)

pub compare_from_left-returns-then-terms-others : goal.compare_from_left-returns-then-terms-others
compare_from_left-returns-then-terms-others t c =
    ended_at c.args.self.now c.args.terms.now c.args.others.now c.args.left.now c.args.right.now c.loop-i.i c.requires
    c.loop-i.invariant (omega (arith, c.loop-i-test.false)) c.if-terms-others.true

pub compare_from_left-returns-else-terms-others : goal.compare_from_left-returns-else-terms-others
compare_from_left-returns-else-terms-others t c =
    short_at c.args.self.now c.args.terms.now c.args.others.now c.args.left.now c.args.right.now c.loop-i.i c.requires
    c.loop-i.invariant (omega (arith, c.loop-i-test.false)) c.loop-i.auto.i-end c.if-terms-others.false

pub compare_from_right-some_reaches-requires : goal.compare_from_right-some_reaches-requires
compare_from_right-some_reaches-requires t c =
    let p =
    left_falls c.args.self.now c.args.left.now c.args.right.now c.args.terms.now c.args.others.now RightToLeft
    c.requires in
    (omega (arith, p, c.decreases), tt)

pub compare_from_right-returns-then-terms-others : goal.compare_from_right-returns-then-terms-others
compare_from_right-returns-then-terms-others t c =
    c.above_if.ensures
    ∙ uneven c.args.self.now c.args.terms.now c.args.others.now c.args.left.now c.args.right.now c.some_reaches.result
    c.requires c.if-terms-others.true c.some_reaches.ensures

pub compare_from_right-compare-requires : goal.compare_from_right-compare-requires
compare_from_right-compare-requires t c =
    let p =
    left_falls c.args.self.now c.args.left.now c.args.right.now c.args.terms.now c.args.others.now RightToLeft
    c.requires in
    let q =
    right_falls c.args.self.now c.args.left.now c.args.right.now c.args.terms.now c.args.others.now RightToLeft
    c.requires in
    let a = item_falls c.args.terms.now (c.loop-i.i - 1) c.index-terms-i.result c.index-terms-i.is
    (omega (arith, c.loop-i-test.true, c.loop-i.invariant.1)) in
    let b = item_falls c.args.others.now (c.loop-i.i - 1) c.index-others-i.result c.index-others-i.is
    (omega (arith, c.loop-i-test.true, c.loop-i.invariant.1, c.if-terms-others.false)) in
    (omega (arith, p, q, a, b, c.decreases), tt)

pub compare_from_right-loop-i-preserved : goal.compare_from_right-loop-i-preserved
compare_from_right-loop-i-preserved t c = (
  same_back c.args.self.now c.args.terms.now c.args.others.now c.index-terms-i.result c.index-others-i.result
      (c.loop-i.i - 1) c.loop-i.i c.if-terms-others.false
      (omega (arith, c.loop-i-test.true)) c.loop-i.invariant.1 c.loop-i.invariant.0
      c.index-terms-i.is c.index-others-i.is (sym c.in-Same.is ∙ c.compare.ensures),
  omega (arith, c.loop-i.invariant.1),
)

pub compare_from_right-is_above_all-requires : goal.compare_from_right-is_above_all-requires
compare_from_right-is_above_all-requires t c =
    let q =
    right_falls c.args.self.now c.args.left.now c.args.right.now c.args.terms.now c.args.others.now RightToLeft
    c.requires in
    let r = sum_by-take-le nodes c.args.others.now (c.loop-i.i - 1) in
    (omega (arith, q, r, c.decreases), tt)

pub compare_from_right-returns-in-Above : goal.compare_from_right-returns-in-Above
compare_from_right-returns-in-Above t c =
    c.above_if-in-Above.ensures
    ∙ above_from c.args.self.now c.args.terms.now c.args.others.now c.args.left.now c.args.right.now
    c.index-terms-i.result c.index-others-i.result (c.loop-i.i - 1) c.loop-i.i c.is_above_all.result c.requires
    c.if-terms-others.false (omega (arith, c.loop-i-test.true)) c.loop-i.invariant.1 c.loop-i.invariant.0
    c.index-terms-i.is c.index-others-i.is (sym c.in-Above.is ∙ c.compare.ensures) c.is_above_all.ensures

pub compare_from_right-some_reaches-requires-in-Neither : goal.compare_from_right-some_reaches-requires-in-Neither
compare_from_right-some_reaches-requires-in-Neither t c =
    let p =
    left_falls c.args.self.now c.args.left.now c.args.right.now c.args.terms.now c.args.others.now RightToLeft
    c.requires in
    let r = sum_by-take-le nodes c.args.terms.now (c.loop-i.i - 1) in
    (omega (arith, p, r, c.decreases), tt)

pub compare_from_right-returns-in-Neither : goal.compare_from_right-returns-in-Neither
compare_from_right-returns-in-Neither t c =
    c.above_if-in-Neither.ensures
    ∙ neither_from c.args.self.now c.args.terms.now c.args.others.now c.args.left.now c.args.right.now
    c.index-terms-i.result c.index-others-i.result
    (c.loop-i.i - 1) c.loop-i.i c.some_reaches-in-Neither.result c.requires
    c.if-terms-others.false (omega (arith, c.loop-i-test.true)) c.loop-i.invariant.1 c.loop-i.invariant.0
    c.index-terms-i.is c.index-others-i.is
    (sym c.in-Neither.is ∙ c.compare.ensures) c.some_reaches-in-Neither.ensures

pub compare_from_right-returns : goal.compare_from_right-returns
compare_from_right-returns t c =
    all_same c.args.self.now c.args.terms.now c.args.others.now c.args.left.now c.args.right.now c.loop-i.i c.requires
    (omega (arith, c.loop-i-test.false)) c.loop-i.invariant.0

pub is_above_all-returns-then-not-is_above : goal.is_above_all-returns-then-not-is_above
is_above_all-returns-then-not-is_above t c =
    let g =
    not_greater_told c.args.self.now c.args.term.now c.other-item.result c.compare.result c.is_above.result
    c.compare.ensures c.is_above.ensures c.if-not-is_above.true in
    sym (list_all_at (greater c.args.self.now c.args.term.now) c.args.others.now c.loop-other.other-index
    c.other-item.result c.loop-other-test.true
    (ap (greater c.args.self.now c.args.term.now) (sym c.other-item.is) ∙ g))

pub some_beats-loop-term-preserved : goal.some_beats-loop-term-preserved
some_beats-loop-term-preserved t c =
    beats_past c.args.self.now c.args.terms.now c.args.others.now c.args.other.now c.term-item.result
    c.loop-term.term-index (some_beats c.args.self.now
    (forest_of c.args.terms.now) c.args.terms.now c.args.others.now c.args.other.now)
    c.loop-term-test.true c.term-item.is
    (elim c.else-remains.branch [
      | some_beats-else-remains-via-then-remains+else-is_above w ↦
          not_greater c.args.terms.now c.args.others.now c.term-item.result
          (greater c.args.self.now c.term-item.result c.args.other.now)
          (not_greater_told c.args.self.now c.term-item.result c.args.other.now w.compare.result w.is_above.result
          w.compare.ensures w.is_above.ensures w.if-is_above.false)
      | some_beats-else-remains-via-else-remains w ↦
          not_remaining c.args.terms.now c.args.others.now c.term-item.result
          (greater c.args.self.now c.term-item.result c.args.other.now) (sym c.remains.ensures ∙ w.if-remains.false)
    ])
    c.loop-term.invariant
