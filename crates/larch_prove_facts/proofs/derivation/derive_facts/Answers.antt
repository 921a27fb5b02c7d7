-- The draft stands, and what it leads to is worked on.
use Rattle.std.proofs.Common.{map, refl, subst, sym}
use Rattle.larch_prove_work.specs.ProveAddingEquation.{sides_in}
use Rattle.larch_prove_facts.proofs.Undone.{made_undone, some_undone, undone_over, undone_stands}
use Rattle.larch_prove_facts.proofs.derivation.derive_facts.Goals as goal
use Rattle.larch_prove_facts.specs.Derivation.{all_settled}
use Rattle.larch_prove_work.specs.ProveSettingsTelling.{Tells}
use Rattle.larch_prove_work.proofs.Carried.{told_so}

pub derive_for-requires-clause-stands : goal.derive_for-requires-clause-stands
derive_for-requires-clause-stands c =
    some_undone c.args.claim.now.theory c.args.claim.now.statement c.args.work.now c.requires.works

pub returns-in-Ok-clause-made : goal.returns-in-Ok-clause-made
returns-in-Ok-clause-made c = λ p m.
    let t = c.args.claim.now.theory in let s = c.args.claim.now.statement in let w = c.args.work.now in
    let z = undone_stands t s w p m in
    made_undone t s w
    (record { settings = w.settings; store = c.derive_for.new.store; draft = c.derive_for.new.draft })
    p (all_settled (map sides_in c.args.equations.items) p) refl m
    (c.in-Ok.ensures.derived p z.0 z.1.0 (undone_over t s w p m) z.1.1)

pub returns-in-Err-clause-refused : goal.returns-in-Err-clause-refused
returns-in-Err-clause-refused c = λ p m.
    let t = c.args.claim.now.theory in let s = c.args.claim.now.statement in let w = c.args.work.now in
    let z = undone_stands t s w p m in
    subst (Tells (all_settled (map sides_in c.args.equations.items) p)) (sym c.command_refusal.ensures)
    (told_so (all_settled (map sides_in c.args.equations.items) p) c.in-Err.refusal
    (c.in-Err.ensures.refused p z.0 z.1.0 (undone_over t s w p m) z.1.1))
