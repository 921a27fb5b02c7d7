-- Each argument is copied, or changed where its number is asked for.
use Rattle.std.proofs.Common.{◌≡◌, ◌==◌, ◌∙◌, cond, false, arith}
use Rattle.larch_term.specs.Place.{put}
use Rattle.larch_term.proofs.TreeLists.{put_in_step, put_in_all}
use Rattle.larch_term.proofs.place.+put.Goals as goal
use Rattle.larch_term.proofs.place.+put.Goals.{put_in-then-left-eq1+in_ok-item, put_in-else-left-eq1+in_ok-item-2}

pub put_in-loop-term-preserved : goal.put_in-loop-term-preserved
put_in-loop-term-preserved t c =
    let is : c.if-left-eq1.item ≡ cond (c.loop-term.left == 1)
    (put c.term-item.result c.args.place.now c.args.by.now) c.term-item.result =
    elim c.if-left-eq1.branch [
      | put_in-then-left-eq1+in_ok-item w ↦ rw w.if-left-eq1.true (w.item-is ∙ w.in_ok-item.ensures)
      | put_in-else-left-eq1+in_ok-item-2 w ↦ let other : (c.loop-term.left == 1) ≡ false =
          grind (arith, w.if-left-eq1.false) in rw other (w.item-is ∙ w.in_ok-item-2.ensures)
    ] in
    rw (c.in_ok-push.ensures.items, c.saturating_sub-left.ensures)
    (put_in_step c.loop-term.items.items c.deref-term-items.result.now _ c.loop-term.term-index c.loop-term.left
    c.args.place.now c.args.by.now
    c.if-left-eq1.item c.term-item.result c.loop-term-test.true c.term-item.is is c.loop-term.invariant)

pub put_in-returns : goal.put_in-returns
put_in-returns t c =
    rw c.from_vec.ensures
    (put_in_all c.loop-term.items.items c.deref-term-items.result.now c.args.terms.now c.loop-term.term-index
    c.loop-term.left c.args.number c.args.place.now c.args.by.now
    c.loop-term-test.false (c.deref-term-items.ensures.value ∙ c.terms.view_is) c.loop-term.invariant)
