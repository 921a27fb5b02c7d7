use Rattle.std.proofs.Common.{◌≡◌, ◌∙◌, ◌++◌, ◌∷◌, ◌<◌, [], ap, arith, suc}
use Rattle.larch_sorts_counts.specs.Spread.{spread}
use Rattle.larch_sorts_counts.proofs.Spreading.{alone_outside, alone_within}
use Rattle.larch_sorts_counts.proofs.tally.alone.Goals as goal

pub returns-then-numbers-number : goal.returns-then-numbers-number
returns-then-numbers-number c =
    let e : c.in-Some.numbers ≡ suc c.args.size = let a = c.in-Some.ensures in omega arith in
    ap (spread c.in-Some.numbers 0) c.new-held.ensures.items
    ∙ alone_outside c.in-Some.numbers c.args.size c.args.number c.args.count e c.if-numbers-number.true

pub returns : goal.returns
returns c =
    let e : c.in-Some.numbers ≡ suc c.args.size = let a = c.in-Some.ensures in omega arith in
    let l : c.args.number < c.in-Some.numbers = let q = c.if-numbers-number.false in omega arith in
    ap (spread c.in-Some.numbers c.args.number)
    (c.in_ok-push.ensures.items ∙ ap (λ cs. cs ++ c.args.count ∷ []) c.new-held.ensures.items)
    ∙ alone_within c.in-Some.numbers c.args.size c.args.number c.args.count e l
