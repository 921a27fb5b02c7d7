use Rattle.std.proofs.Common.{◌≡◌, ◌+◌, ◌-◌, ◌<◌, arith, length, set}
use Rattle.std.proofs.lemmas.Grind.{common_steps}
use Rattle.larch_sorts_counts.specs.Count.{count_at, plus}
use Rattle.larch_sorts_counts.specs.Spread.{spread}
use Rattle.larch_sorts_counts.proofs.Spreading.{added_outside, added_within, nothing_added}
use Rattle.larch_sorts_counts.proofs.tally.add.Goals as goal

pub returns-then-numbers-number-clause-added : goal.returns-then-numbers-number-clause-added
returns-then-numbers-number-clause-added c =
    added_outside c.args.numbers c.args.first c.args.held.now.items c.args.number
    (plus (count_at (spread c.args.numbers c.args.first c.args.held.now.items) c.args.number) c.args.count)
    c.if-numbers-number.true

pub returns-clause-added : goal.returns-clause-added
returns-clause-added c =
    let under : c.args.number < c.args.numbers = let q = c.if-numbers-number.false in omega arith in
    let lies = c.requires.lies under in
    let here : c.args.number ≡ c.args.first + (c.args.number - c.args.first) = let a = lies.0 in omega arith in
    let within : c.args.number - c.args.first < length c.args.held.now.items =
    let a = lies.0 in let b = lies.1 in omega arith in
    added_within c.args.numbers c.args.first c.args.held.now.items
    (set c.args.held.now.items (c.args.number - c.args.first) c.plus.result) c.args.number
    (c.args.number - c.args.first) c.args.count c.requires.fits here within (grind (arith, common_steps))

pub returns-then-not-occurs-clause-added : goal.returns-then-not-occurs-clause-added
returns-then-not-occurs-clause-added c =
    nothing_added (spread c.args.numbers c.args.first c.args.held.now.items) c.args.number c.args.count
    (c.occurs.ensures c.if-not-occurs.true)
