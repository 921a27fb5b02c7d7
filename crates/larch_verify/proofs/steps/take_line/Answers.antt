use Rattle.std.proofs.Common.{◌≡◌, suc, ◌+◌, length, sym, ◌∙◌, ap, arith}
use Rattle.larch_verify_meaning.specs.Run.{box_opens, happens}
use Rattle.larch_verify_history.specs.Past.{history_of}
use Rattle.larch_verify.proofs.Taken.{stepped}
use Rattle.larch_verify.proofs.steps.take_line.Goals as goal

pub returns-in_ok-good-in-BoxLine-clause-step : goal.returns-in_ok-good-in-BoxLine-clause-step
returns-in_ok-good-in-BoxLine-clause-step c =
    let k : suc (length c.args.past.now.places.items) ≡ length c.args.past.now.places.items + 1 = omega arith in
    stepped c.args.theory.now (history_of c.args.pool.now c.args.past.now)
    (history_of c.open_box.new.pool c.open_box.new.past) (length c.args.past.now.places.items)
    (length c.open_box.new.past.places.items) c.args.line.now c.in_ok-good-in-BoxLine.good
    (ap (happens c.args.theory.now (history_of c.args.pool.now c.args.past.now)
    (suc (length c.args.past.now.places.items)))
    c.in-BoxLine.is
    ∙ (λ i. box_opens c.args.theory.now (history_of c.args.pool.now c.args.past.now) (k i) (sym c.as_slice.ensures i)
    (sym c.as_slice-in-BoxLine.ensures i))
    ∙ c.in_ok-good-in-BoxLine.ensures.opens)
    c.in_ok-good-in-BoxLine.ensures.count
