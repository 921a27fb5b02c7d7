use Rattle.std.proofs.Common.{◌∙◌, sym}
use Rattle.larch_certificate_reader.specs.Counted.{read_count}
use Rattle.larch_certificate_reader.proofs.ListSteps.{item_some, item_none, last_some, last_none, cut_shorter}
use Rattle.larch_certificate_reader.proofs.list.read_counts.Goals as goal

pub returns-in_default-read_counted : goal.returns-in_default-read_counted
returns-in_default-read_counted c =
    item_none (read_count c.args.here c.args.kind) c.args.separator c.items.items c.items.rest.now c.in-Some.first.now
    c.in-Some.others.now (rw c.in-Some.is at c.cut_at.ensures)
    (rw c.in_default-read_counted.is at c.read_counted.ensures) ∙ c.items.invariant

pub items-smaller : goal.items-smaller
items-smaller c =
    cut_shorter c.args.separator c.items.rest.now c.in-Some.first.now c.in-Some.others.now
    (sym (rw c.in-Some.is at c.cut_at.ensures))

pub items-preserved : goal.items-preserved
items-preserved c =
    rw c.in_ok-push.ensures.ok
    (item_some (read_count c.args.here c.args.kind) c.args.separator c.items.items c.items.rest.now c.in-Some.first.now
    c.in-Some.others.now c.in-Some-read_counted.item (rw c.in-Some.is at c.cut_at.ensures)
    (rw c.in-Some-read_counted.is at c.read_counted.ensures)) ∙ c.items.invariant

pub returns-in_default-read_counted-2 : goal.returns-in_default-read_counted-2
returns-in_default-read_counted-2 c =
    last_none (read_count c.args.here c.args.kind) c.args.separator c.items.items c.items.rest.now
    (rw c.in_default.is at c.cut_at.ensures) (rw c.in_default-read_counted-2.is at c.read_counted-2.ensures)
    ∙ c.items.invariant

pub returns : goal.returns
returns c =
    rw c.in_ok-push-2.ensures.ok
    (last_some (read_count c.args.here c.args.kind) c.args.separator c.items.items c.items.rest.now
    c.in-Some-read_counted-2.last (rw c.in_default.is at c.cut_at.ensures)
    (rw c.in-Some-read_counted-2.is at c.read_counted-2.ensures)) ∙ c.items.invariant
