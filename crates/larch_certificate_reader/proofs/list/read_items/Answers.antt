use Rattle.std.proofs.Common.{◌∙◌, sym}
use Rattle.larch_certificate_reader.proofs.ListSteps.{item_some, item_none, last_some, last_none, cut_shorter}
use Rattle.larch_certificate_reader.proofs.list.read_items.Goals as goal

pub returns-in_default-2 : goal.returns-in_default-2
returns-in_default-2 g c =
    item_none (g.T.Item.reads c.args.here) c.args.separator c.items.items c.items.rest.now c.in-Some.first.now
    c.in-Some.others.now (rw c.in-Some.is at c.cut_at.ensures) (rw c.in_default-2.is at c.in_ok-item.ensures)
    ∙ c.items.invariant

pub items-smaller : goal.items-smaller
items-smaller g c =
    cut_shorter c.args.separator c.items.rest.now c.in-Some.first.now c.in-Some.others.now
    (sym (rw c.in-Some.is at c.cut_at.ensures))

pub items-preserved : goal.items-preserved
items-preserved g c =
    rw c.in_ok-push.ensures.ok
    (item_some (g.T.Item.reads c.args.here) c.args.separator c.items.items c.items.rest.now c.in-Some.first.now
    c.in-Some.others.now c.in-Some-2.item (rw c.in-Some.is at c.cut_at.ensures)
    (rw c.in-Some-2.is at c.in_ok-item.ensures)) ∙ c.items.invariant

pub returns-in_default-3 : goal.returns-in_default-3
returns-in_default-3 g c =
    last_none (g.T.Item.reads c.args.here) c.args.separator c.items.items c.items.rest.now
    (rw c.in_default.is at c.cut_at.ensures) (rw c.in_default-3.is at c.in_ok-last.ensures) ∙ c.items.invariant

pub returns : goal.returns
returns g c =
    rw c.in_ok-push-2.ensures.ok
    (last_some (g.T.Item.reads c.args.here) c.args.separator c.items.items c.items.rest.now c.in-Some-3.last
    (rw c.in_default.is at c.cut_at.ensures) (rw c.in-Some-3.is at c.in_ok-last.ensures)) ∙ c.items.invariant
