use Rattle.std.proofs.Common.{◌==◌, ◌-◌, length, if◌then◌else◌, Some, slice_index_or, sym, ◌∙◌, ap}
use Rattle.std.specs.Option.{is_some}
use Rattle.larch_verify_parts.specs.Apart.{seen_in}
use Rattle.larch_verify_parts.proofs.Twice.{next_from_behind, stands_twice, stands_once}
use Rattle.larch_verify_parts.proofs.different.are_different.Goals as goal

pub returns-then-contains_key : goal.returns-then-contains_key
returns-then-contains_key c =
    stands_twice c.args.numbers.now c.loop-i.i 0 c.loop-i-test.true
    (ap is_some
    (sym
    (c.loop-i.invariant.seen (slice_index_or c.args.numbers.now (length c.args.numbers.now - 1 - c.loop-i.i) 0)))
    ∙ sym c.contains_key.ensures ∙ c.if-contains_key.true)

pub loop-i-preserved : goal.loop-i-preserved
loop-i-preserved c = record {
  seen = λ q. c.in_ok-insert.ensures.updates.0 q
      ∙ ap (λ o. if slice_index_or c.args.numbers.now (length c.args.numbers.now - 1 - c.loop-i.i) 0 == q
      then Some (slice_index_or c.args.numbers.now (length c.args.numbers.now - 1 - c.loop-i.i) 0) else o)
      (c.loop-i.invariant.seen q)
      ∙ ap (λ ns. seen_in ns q) (sym (next_from_behind c.args.numbers.now c.loop-i.i 0 c.loop-i-test.true));
  apart = stands_once c.args.numbers.now c.loop-i.i 0 c.loop-i-test.true
      (ap is_some
      (sym
      (c.loop-i.invariant.seen (slice_index_or c.args.numbers.now (length c.args.numbers.now - 1 - c.loop-i.i) 0)))
      ∙ sym c.contains_key.ensures ∙ c.if-contains_key.false)
      c.loop-i.invariant.apart;
}
