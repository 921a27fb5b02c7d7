use Rattle.std.proofs.Common.{◌≡◌, ◌∙◌, ◌+◌, ◌-◌, ◌≤◌, ap, arith, length, sym}
use Rattle.std.proofs.lemmas.Grind.{common_steps}
use Rattle.larch_sorts_counts.specs.Count.{count_at}
use Rattle.larch_sorts_counts.proofs.Spreading.{count_held, spread_before, spread_behind}
use Rattle.larch_sorts_counts.proofs.tally.count_at.Goals as goal

pub returns-then-number-counts : goal.returns-then-number-counts
returns-then-number-counts c =
    sym (ap (λ cs. count_at cs c.args.number) (sym c.counts.view_is)
    ∙ spread_before c.counts.inside.numbers c.counts.inside.first c.counts.inside.held.items c.args.number
    c.if-number-counts.true)

pub returns-then-place-len : goal.returns-then-place-len
returns-then-place-len c =
    let here : c.args.number ≡ c.counts.inside.first + (c.args.number - c.counts.inside.first) =
    let q = c.if-number-counts.false in omega arith in
    let e : c.index.result.now ≡ count_at c.counts.inside.held.items (c.args.number - c.counts.inside.first) =
    grind (arith, common_steps) in
    e ∙ count_held c.counts.inside.numbers c.counts.inside.first c.counts.inside.held.items c.args.number
    (c.args.number - c.counts.inside.first) c.counts.invariant here
    ∙ sym (ap (λ cs. count_at cs c.args.number) (sym c.counts.view_is))

pub returns-else-place-len : goal.returns-else-place-len
returns-else-place-len c =
    let behind : c.counts.inside.first + length c.counts.inside.held.items ≤ c.args.number =
    let q = c.if-number-counts.false in let r = c.if-place-len.false in let a = c.len.ensures in omega arith in
    sym (ap (λ cs. count_at cs c.args.number) (sym c.counts.view_is)
    ∙ spread_behind c.counts.inside.numbers c.counts.inside.first c.counts.inside.held.items c.args.number behind)
