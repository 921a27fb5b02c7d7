use Rattle.std.proofs.Common.{◌∙◌, ◌+◌, ◌≤◌, ap, arith, length, sym}
use Rattle.larch_sorts_counts.specs.Count.{count_at}
use Rattle.larch_sorts_counts.proofs.Spreading.{spread_before, spread_behind}
use Rattle.larch_sorts_counts.proofs.tally.span.Goals as goal
use Rattle.larch_sorts_counts.proofs.tally.span.Goals.{then-room-length, else-room-length}

pub returns-then-size-counts-clause-before : goal.returns-then-size-counts-clause-before
returns-then-size-counts-clause-before c = λ k l.
    ap (λ cs. count_at cs k) (sym c.counts.view_is)
    ∙ spread_before c.counts.inside.numbers c.counts.inside.first c.counts.inside.held.items k
    (let q = c.if-size-counts.true in omega (arith, l, q))

pub returns-clause-before : goal.returns-clause-before
returns-clause-before c = λ k l.
    ap (λ cs. count_at cs k) (sym c.counts.view_is)
    ∙ spread_before c.counts.inside.numbers c.counts.inside.first c.counts.inside.held.items k l

pub returns-clause-behind : goal.returns-clause-behind
returns-clause-behind c = λ k a b.
    let first = c.if-size-counts.false in
    let behind : c.counts.inside.first + length c.counts.inside.held.items ≤ k =
    elim c.if-room-length.branch [
      | then-room-length w ↦ let e = w.length-is in absurd (omega (arith, a, b, e, first))
      | else-room-length w ↦ let e = w.length-is in let n = c.len-length.ensures in omega (arith, a, e, n)
    ] in
    ap (λ cs. count_at cs k) (sym c.counts.view_is)
    ∙ spread_behind c.counts.inside.numbers c.counts.inside.first c.counts.inside.held.items k behind
