-- Instance by instance.
use Rattle.std.proofs.Common.{ap, arith, bytes_eq, filter, length, sym, ◌∙◌}
use Rattle.std.proofs.lemmas.List.{take_all}
use Rattle.larch_prove_facts.proofs.Searching.{counted_at}
use Rattle.larch_prove_facts.proofs.entries.count_named.Goals as goal
use Rattle.larch_prove_facts.proofs.entries.count_named.Goals.{then-eq, else-eq}
use Rattle.larch_prove_facts.specs.Entries.{names_in}

pub loop-instance-preserved : goal.loop-instance-preserved
loop-instance-preserved c =
    let n = c.args.name.now in let is = c.args.instances.now in let k = c.loop-instance.instance-index in
    let i = c.instance-item.result in let so_far = c.loop-instance.invariant.counted in
    let b = c.loop-instance.invariant.bound in
    elim c.if-eq.branch [
      | then-eq w ↦ let e = w.count-is in
          let more = counted_at n is k i _ c.loop-instance-test.true c.instance-item.is
          (sym c.eq.ensures ∙ w.if-eq.true) in
          record { counted = omega (arith, e, more, so_far); bound = omega (arith, b, e) }
      | else-eq w ↦ let e = w.count-is in
          let more = counted_at n is k i _ c.loop-instance-test.true c.instance-item.is
          (sym c.eq.ensures ∙ w.if-eq.false) in
          record { counted = omega (arith, e, more, so_far); bound = omega (arith, b, e) }
    ]

pub returns : goal.returns
returns c =
    c.loop-instance.invariant.counted
    ∙ ap (λ is. length (filter (bytes_eq c.args.name.now) (names_in is)))
    (take_all c.loop-instance.instance-index c.args.instances.now c.loop-instance-test.false)
