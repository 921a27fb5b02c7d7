-- Where boxes are checked, the first mark that waits is taken.
use Rattle.std.specs.Prelude.{slice_get}
use Rattle.std.proofs.Common.{ap, sym, ◌∙◌}
use Rattle.larch_prove.proofs.Marked.{is_next, mark_is_refused, mark_is_taken, not_next, one_waits, unchecked_taken}
use Rattle.larch_prove.proofs.marks.take_mark.Goals as goal

pub returns-then-not-draft-clause-taken : goal.returns-then-not-draft-clause-taken
returns-then-not-draft-clause-taken c = λ t s store p w.
    unchecked_taken t s store c.args.draft.now p c.args.is_proved c.if-not-draft.true w

pub returns-then-ne-clause-refused : goal.returns-then-ne-clause-refused
returns-then-ne-clause-refused c = λ t s store p w.
    mark_is_refused t s store c.args.draft.now p c.args.is_proved c.if-not-draft.false
    (λ e. not_next c.copied-next.result c.args.is_proved c.ne.result c.ne.ensures c.if-ne.true
    (c.copied-next.ensures ∙ (c.first.ensures.value ∙ (ap (λ xs. slice_get xs 0) c.deref.ensures.value ∙ e)))) w

pub returns-clause-taken : goal.returns-clause-taken
returns-clause-taken c = λ t s store p w.
    mark_is_taken t s store c.args.draft.now c.remove.new.self p c.args.is_proved c.if-not-draft.false
    (sym (c.copied-next.ensures ∙ (c.first.ensures.value ∙ ap (λ xs. slice_get xs 0) c.deref.ensures.value))
    ∙ is_next c.copied-next.result c.args.is_proved c.ne.result c.ne.ensures c.if-ne.false)
    c.remove.ensures.by_index.2 w

pub remove-requires : goal.remove-requires
remove-requires c =
    one_waits c.args.draft.now.waiting c.args.is_proved
    (sym (c.copied-next.ensures ∙ (c.first.ensures.value ∙ ap (λ xs. slice_get xs 0) c.deref.ensures.value))
    ∙ is_next c.copied-next.result c.args.is_proved c.ne.result c.ne.ensures c.if-ne.false)
