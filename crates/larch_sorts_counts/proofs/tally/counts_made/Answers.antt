use Rattle.std.proofs.Common.{◌≡◌, ◌∙◌, ◌-◌, ap, arith, length, map, replicate, suc}
use Rattle.std.specs.List.{fold}
use Rattle.std.proofs.lemmas.Grind.{common_steps}
use Rattle.std.proofs.lemmas.List.{length-replicate}
use Rattle.larch_sorts_counts.specs.Count.{blank, with_count}
use Rattle.larch_sorts_counts.specs.Counted.{counts_in}
use Rattle.larch_sorts_counts.specs.Spread.{spread}
use Rattle.larch_sorts_counts.specs.declared.count.Count.TheVariants.{Never}
use Rattle.larch_sorts_counts.proofs.Spreading.{spread_blank}
use Rattle.larch_sorts_counts.proofs.tally.counts_made.Goals as goal

pub loop-operator-init : goal.loop-operator-init
loop-operator-init c =
    let e : c.in-Some.numbers ≡ suc c.args.size = let a = c.in-Some.ensures in omega arith in
    let h : c.in_ok-held.held.items
    ≡ replicate (c.made_between-first.result.1 - c.made_between-first.result.0) Never = grind (arith, common_steps) in
    let none : spread c.in-Some.numbers c.made_between-first.result.0 c.in_ok-held.held.items ≡ blank c.args.size =
    ap (spread c.in-Some.numbers c.made_between-first.result.0) h
    ∙ spread_blank c.in-Some.numbers c.made_between-first.result.0
    (c.made_between-first.result.1 - c.made_between-first.result.0)
    (let a = c.made_between-first.ensures.first in let b = c.made_between-first.ensures.end in omega arith)
    ∙ ap (λ n. replicate n Never) e in
    record {
      counts = ap (λ cs. fold (with_count (map counts_in c.args.arguments.now)) cs c.args.operators.now) none;
      held = ap length h
          ∙ length-replicate (c.made_between-first.result.1 - c.made_between-first.result.0) Never;
    }
