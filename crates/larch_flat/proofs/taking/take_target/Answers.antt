use Rattle.std.proofs.Common.{sym, ap, subst, ◌∙◌, Some}
use Rattle.larch_flat_gathering.specs.Keeping.{Leaves}
use Rattle.larch_flat.specs.Parts.{with_parts}
use Rattle.larch_flat.proofs.Parts.{no_flat, target_bad, target_flat}
use Rattle.larch_flat.proofs.taking.take_target.Goals as goal

pub returns-in-Ok : goal.returns-in-Ok
returns-in-Ok c = λ number g knows is k.
    let known = rw c.in-Some-Ok.is at c.get.ensures in
    let r = c.args.reference.now in
    let taken = c.take_flat.ensures g k in
    target_flat c.args.sources.now c.args.known.now number c.args.found r c.in-Ok.raw c.in-Some-Ok.flat g
    c.take_flat.new.store c.take_flat.result knows is
    (c.text.ensures ∙ ap Some c.in-Ok.is) (sym known ∙ ap Some c.in-Some-Ok.field-0-is)
    (subst (λ x. Leaves c.take_flat.new.store c.take_flat.result
    (with_parts r c.in-Ok.raw.formals x.operators x.marked g)) c.flat.view_is
    (subst (λ fs. Leaves c.take_flat.new.store c.take_flat.result
    (with_parts r fs c.flat.inside.operators c.flat.inside.marked g)) c.as_slice.ensures
    (subst (λ os. Leaves c.take_flat.new.store c.take_flat.result
    (with_parts r c.as_slice.result.now os c.flat.inside.marked g)) c.as_slice-in-Ok.ensures taken)))

pub returns-in-Err : goal.returns-in-Err
returns-in-Err c = λ number g knows is k.
    let known = rw c.in-Some-Ok.is at c.get.ensures in
    absurd (no_flat c.args.sources.now c.args.known.now c.args.found c.in-Err.field-0 c.in-Some-Ok.flat knows
    (c.text.ensures ∙ ap Some c.in-Err.is) (sym known ∙ ap Some c.in-Some-Ok.field-0-is))

pub returns-in-Some-Err : goal.returns-in-Some-Err
returns-in-Some-Err c = λ number g knows is k.
    let known = rw c.in-Some-Err.is at c.get.ensures in
    rw c.bad-in-Some-Err.ensures
    (target_bad c.args.sources.now c.args.known.now number c.args.found c.args.reference.now c.in-Some-Err.field-0-0 g
    knows is (sym known ∙ ap Some c.in-Some-Err.field-0-is))
