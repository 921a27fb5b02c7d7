-- The draft stands, and what it leads to is worked on.
use Rattle.std.proofs.Common.{refl, subst, sym}
use Rattle.larch_prove_facts.proofs.Undone.{made_undone, some_undone, undone_over, undone_stands}
use Rattle.larch_prove_facts.proofs.instantiation.settle_instance.Goals as goal
use Rattle.larch_prove_facts.specs.Instance.{instance_settled}
use Rattle.larch_prove_work.specs.ProveSettingsTelling.{Tells}
use Rattle.larch_prove_work.proofs.Carried.{told_so}

pub settle_for-requires-clause-stands : goal.settle_for-requires-clause-stands
settle_for-requires-clause-stands c =
    some_undone c.args.claim.now.theory c.args.claim.now.statement c.args.work.now c.requires.works

pub returns-in-Ok-clause-made : goal.returns-in-Ok-clause-made
returns-in-Ok-clause-made c = λ p m.
    let t = c.args.claim.now.theory in let s = c.args.claim.now.statement in let w = c.args.work.now in
    let z = undone_stands t s w p m in
    made_undone t s w
    (record { settings = w.settings; store = c.settle_for.new.store; draft = c.settle_for.new.draft })
    p (instance_settled c.args.asked.now p) refl m
    (c.in-Ok.ensures.derived p z.0 z.1.0 (undone_over t s w p m) z.1.1)

pub returns-in-Err-clause-refused : goal.returns-in-Err-clause-refused
returns-in-Err-clause-refused c = λ p m.
    let t = c.args.claim.now.theory in let s = c.args.claim.now.statement in let w = c.args.work.now in
    let z = undone_stands t s w p m in
    subst (Tells (instance_settled c.args.asked.now p)) (sym c.command_refusal.ensures)
    (told_so (instance_settled c.args.asked.now p) c.in-Err.refusal
    (c.in-Err.ensures.refused p z.0 z.1.0 (undone_over t s w p m) z.1.1))
