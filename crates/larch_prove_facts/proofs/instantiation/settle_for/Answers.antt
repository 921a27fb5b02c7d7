-- What the instance leads to settles.
use Rattle.std.proofs.Common.{subst, sym}
use Rattle.std.proofs.lemmas.Result.{err_from_is_err_and}
use Rattle.larch_prove_work.proofs.ProveDraftAlike.{over_alike}
use Rattle.larch_prove_work.specs.ProveDraftProving.{IsOver}
use Rattle.larch_prove_facts.proofs.Undone.{reached_leads, reached_settles, reached_standing}
use Rattle.larch_prove_facts.proofs.instantiation.settle_for.Goals as goal
use Rattle.larch_prove_facts.specs.Instance.{instance_in}
use Rattle.larch_prove_work.proofs.ProveLevelsTelling.{tells_first, tells_same}
use Rattle.larch_prove_meaning.specs.Levels.{derived_by, settle_goal}
use Rattle.larch_prove_meaning.specs.Steps.{serves_beside}
use Rattle.larch_prove_work.proofs.ProveSettlingLeaving.{if_answered, if_refused}

pub settle-requires-clause-stands : goal.settle-requires-clause-stands
settle-requires-clause-stands c =
    let q = c.requires.stands in let asked = c.args.asked.now in
    let over = subst (λ ranks. IsOver c.args.claim.now.theory ranks c.args.settings.now.limit q.0) (sym
    c.deref.ensures) q.1.1.1.0 in
    reached_standing c.args.claim.now.theory c.args.claim.now.statement _ _ c.derive_instance.new.store
    c.derive_instance.new.draft q.0 (derived_by (serves_beside asked.fact) (instance_in asked) q.0) over
    (c.in_ok-derive_instance.ensures.derived q.0 q.1.0 q.1.1.0 over q.1.1.1.1)

pub returns-in_err-derive_instance-clause-refused : goal.returns-in_err-derive_instance-clause-refused
returns-in_err-derive_instance-clause-refused c =
    let q = err_from_is_err_and c.from_residual.result c.from_residual.ensures.1 in
    let asked = c.args.asked.now in
    rw (q.1, q.2) (λ p k ks over w.
    tells_first (derived_by (serves_beside asked.fact) (instance_in asked) p) settle_goal
    c.in_err-derive_instance.field-0.0 (c.in_err-derive_instance.ensures.refused p k ks
    (subst (λ ranks. IsOver c.args.claim.now.theory ranks c.args.settings.now.limit p) (sym c.deref.ensures) over) w))

pub returns-clause-derived : goal.returns-clause-derived
returns-clause-derived c =
    let t = c.args.claim.now.theory in let s = c.args.claim.now.statement in let asked = c.args.asked.now in
    if_answered _ _ c.settle.result (λ x h p k ks told w.
    let over = subst (λ ranks. IsOver t ranks c.args.settings.now.limit p) (sym c.deref.ensures) told in
    let r = c.in_ok-derive_instance.ensures.derived p k ks over w in
    reached_leads t s c.derive_instance.new.store c.settle.new.store c.derive_instance.new.draft c.settle.new.draft p
    (derived_by (serves_beside asked.fact) (instance_in asked) p) r
    (h r.0 r.1.1.1.1.0 r.1.1.1.0 (over_alike t _ _ p r.0 r.1.1.0 over) r.1.1.1.1.1)) c.settle.ensures.settled

pub returns-clause-refused : goal.returns-clause-refused
returns-clause-refused c =
    let t = c.args.claim.now.theory in let s = c.args.claim.now.statement in let asked = c.args.asked.now in
    if_refused _ _ c.settle.result (λ x h p k ks told w.
    let over = subst (λ ranks. IsOver t ranks c.args.settings.now.limit p) (sym c.deref.ensures) told in
    let r = c.in_ok-derive_instance.ensures.derived p k ks over w in
    tells_same _ _ x
    (reached_settles t s c.derive_instance.new.store c.derive_instance.new.draft p
    (derived_by (serves_beside asked.fact) (instance_in asked) p) r)
    (h r.0 r.1.1.1.1.0 r.1.1.1.0 (over_alike t _ _ p r.0 r.1.1.0 over) r.1.1.1.1.1)) c.settle.ensures.refused
