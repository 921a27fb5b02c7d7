use Rattle.std.proofs.Common.{length, refl, ◌∙◌, ap}
use Rattle.larch_trim_meaning.specs.Needed.{needs}
use Rattle.larch_trim.specs.Searching.{needs_by}
use Rattle.larch_trim.proofs.Searched.{search_start, search_step, search_over}
use Rattle.larch_trim.proofs.needed.needed_marks.Goals as goal

pub lines-init : goal.lines-init
lines-init c =
    let lines = c.args.lines.now in
    search_start (needs lines) (length lines) (length lines) (length lines) c.in_ok-marks.marks.items
    c.mark.new.marks.items c.new-waiting.result c.mark.new.waiting refl refl c.in_ok-marks.ensures
    c.new-waiting.ensures c.in_ok-mark.ensures.marks c.in_ok-mark.ensures.waiting

pub returns-in_default : goal.returns-in_default
returns-in_default c =
    let lines = c.args.lines.now in
    search_over (needs lines) (length lines) c.lines.marks.items c.lines.waiting c.lines.invariant
    (rw c.in_default.is at c.pop.ensures.none)

pub lines-preserved : goal.lines-preserved
lines-preserved c =
    let lines = c.args.lines.now in
    let wanted = c.as_slice-in-lines.result.now in
    (search_step lines c.in_ok-ends.ends.items c.in_ok-ends.ensures c.lines.marks.items c.mark_all.new.marks.items
    c.lines.waiting c.mark_all.new.waiting c.lines.invariant c.in-Some.number c.pop.new.self
    (rw c.in-Some.is at c.pop.ensures.some) wanted
    (c.as_slice-in-lines.ensures ∙ c.in_ok-wanted.ensures
    ∙ ap (λ xs. needs_by lines xs c.in-Some.number) c.as_slice.ensures.value)
    c.in_ok-mark_all.ensures.marks c.in_ok-mark_all.ensures.waiting).searching

pub lines-smaller : goal.lines-smaller
lines-smaller c =
    let lines = c.args.lines.now in
    let wanted = c.as_slice-in-lines.result.now in
    (search_step lines c.in_ok-ends.ends.items c.in_ok-ends.ensures c.lines.marks.items c.mark_all.new.marks.items
    c.lines.waiting c.mark_all.new.waiting c.lines.invariant c.in-Some.number c.pop.new.self
    (rw c.in-Some.is at c.pop.ensures.some) wanted
    (c.as_slice-in-lines.ensures ∙ c.in_ok-wanted.ensures
    ∙ ap (λ xs. needs_by lines xs c.in-Some.number) c.as_slice.ensures.value)
    c.in_ok-mark_all.ensures.marks c.in_ok-mark_all.ensures.waiting).less
