-- Outside of what both hold nothing is common, and within it is what both have there.
use Rattle.std.proofs.Common.{◌-◌, ◌∙◌, ap₂, arith, drop, length, take}
use Rattle.larch_sorts_counts.specs.Count.{sum_to, together}
use Rattle.larch_sorts_counts.proofs.InCommon.{all_in_common, none_in_common, part_length, same_parts}
use Rattle.larch_sorts_counts.proofs.tally.common.Goals as goal

pub returns-then-end-first : goal.returns-then-end-first
returns-then-end-first c =
    let l = c.left.inside in let r = c.right.inside in
    let behind_left = c.saturating_add-behind_left.ensures in let n = c.len.ensures in
    let behind_right = c.saturating_add-behind_right.ensures in let m = c.len-2.ensures in
    let both = c.min.ensures in let end = c.min-end.ensures in let first = c.max-first.ensures in
    let past = c.if-end-first.true in let fits = c.ranges.size.fits in
    none_in_common l.numbers r.numbers l.first r.first l.held.items r.held.items c.args.size
    (omega (arith, behind_left, n, behind_right, m, both, end, first, past, fits))
    ∙ ap₂ (λ left right. sum_to (together left right) c.args.size) c.left.view_is c.right.view_is

pub returns : goal.returns
returns c =
    let l = c.left.inside in let r = c.right.inside in
    let behind_left = c.saturating_add-behind_left.ensures in let n = c.len.ensures in
    let behind_right = c.saturating_add-behind_right.ensures in let m = c.len-2.ensures in
    let both = c.min.ensures in let end = c.min-end.ensures in let first = c.max-first.ensures in
    let within = c.if-end-first.false in let fits = c.ranges.size.fits in
    let size = c.args.size in let from = c.max-first.result in let to = c.min-end.result in
    c.count_pairs.ensures
    ∙ ap₂ (λ xs ys. sum_to (together (take ((to - l.first) - (from - l.first)) (drop (from - l.first) xs))
    (take ((to - r.first) - (from - r.first)) (drop (from - r.first) ys)))
    (length (take ((to - l.first) - (from - l.first)) (drop (from - l.first) xs))))
    c.deref.ensures.value c.deref-2.ensures.value
    ∙ same_parts (drop (from - l.first) l.held.items) (drop (from - r.first) r.held.items)
    ((to - l.first) - (from - l.first)) ((to - r.first) - (from - r.first))
    (length (take ((to - l.first) - (from - l.first)) (drop (from - l.first) l.held.items))) (to - from)
    (omega (arith, first)) (omega (arith, first))
    (part_length l.held.items (from - l.first) ((to - l.first) - (from - l.first))
    (omega (arith, behind_left, n, both, end, first, within))
    ∙ omega (arith, first))
    ∙ all_in_common l.numbers r.numbers l.first r.first l.held.items r.held.items c.left.invariant c.right.invariant
    size from to first (omega (arith, behind_left, n, behind_right, m, both, end, fits)) within
    ∙ ap₂ (λ left right. sum_to (together left right) size) c.left.view_is c.right.view_is
