-- The draft stands, and what it leads to is worked on.
use Rattle.std.proofs.Common.{refl, subst, sym}
use Rattle.larch_prove_settings.specs.ProveMeaningSteps.{level_opened}
use Rattle.larch_prove_settings.specs.Telling.{Tells}
use Rattle.larch_prove_work.proofs.Carried.{made_so, some_provable, told_so, work_over, work_stands}
use Rattle.larch_prove_work.proofs.formula.prove_formula.Goals as goal

pub open_for-requires-clause-stands : goal.open_for-requires-clause-stands
open_for-requires-clause-stands c =
    some_provable c.args.claim.now.theory c.args.claim.now.statement c.args.work.now c.args.formula.now
    c.requires.works.0 c.requires.works.1

pub returns-in-Ok-clause-proved : goal.returns-in-Ok-clause-proved
returns-in-Ok-clause-proved c = λ p m.
    let t = c.args.claim.now.theory in let s = c.args.claim.now.statement in let w = c.args.work.now in
    let z = work_stands t s w p m.may_work in
    made_so t s w
    (record { settings = w.settings; store = c.open_for.new.store; draft = c.open_for.new.draft })
    p (level_opened c.args.formula.now p) refl m.may_work
    (c.in-Ok.ensures.opened p z.0 z.1.0 (work_over t s w p m.may_work) z.1.1 m.may_prove)

pub returns-in-Err-clause-refused : goal.returns-in-Err-clause-refused
returns-in-Err-clause-refused c = λ p m.
    let t = c.args.claim.now.theory in let s = c.args.claim.now.statement in let w = c.args.work.now in
    let z = work_stands t s w p m.may_work in
    subst (Tells (level_opened c.args.formula.now p)) (sym c.command_refusal.ensures)
    (told_so (level_opened c.args.formula.now p) c.in-Err.refusal
    (c.in-Err.ensures.refused p z.0 z.1.0 (work_over t s w p m.may_work) z.1.1 m.may_prove))
