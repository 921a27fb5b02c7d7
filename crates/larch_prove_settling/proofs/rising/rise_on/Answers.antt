-- One turn after the other.
use Rattle.std.proofs.Common.{subst}
use Rattle.std.proofs.lemmas.Result.{err_from_is_err_and}
use Rattle.larch_prove_draft.proofs.Alike.{leads_on, over_alike}
use Rattle.larch_prove_draft.specs.Draft.{Leads}
use Rattle.larch_prove_draft.proofs.ProveLevelsTelling.{tells_same}
use Rattle.larch_prove_settling.proofs.rising.rise_on.Goals as goal
use Rattle.larch_store.proofs.Growth.{grows_refl, grows_trans}

pub loop-shown-init : goal.loop-shown-init
loop-shown-init c = record { leads = λ p answer over w. w; grows = grows_refl c.args.store.now }

pub loop-shown-preserved : goal.loop-shown-preserved
loop-shown-preserved c = record {
  leads = λ p answer over w.
      let t = c.args.proving.now.theory.now in let s = c.args.proving.now.statement.now in
      let z = subst (λ o. Leads t s c.loop-shown.store c.loop-shown.draft p o answer) c.in-Some.is
      (c.loop-shown.invariant.leads p answer over w) in
      leads_on t s c.rise.new.store c.rise.new.draft p z.0 c.in_ok-shown.shown _ _ z.1.1.1.1.0 z.1.1.1.0
      (c.in_ok-shown.ensures.leads z.0 z.1.0 z.1.1.0 (over_alike t _ _ p z.0 z.1.1.1.1.0 over) z.1.1.1.1.1);
  grows = grows_trans _ _ _ c.loop-shown.invariant.grows c.in_ok-shown.ensures.grows;
}

pub rise-requires-clause-shown : goal.rise-requires-clause-shown
rise-requires-clause-shown c =
    let q = c.requires.led in let p = q.0 in
    let t = c.args.proving.now.theory.now in let s = c.args.proving.now.statement.now in
    let z = subst (λ o. Leads t s c.loop-shown.store c.loop-shown.draft p o q.1.0) c.in-Some.is
    (c.loop-shown.invariant.leads p q.1.0 q.1.1.0 q.1.1.1) in
    (z.0, (z.1.0, (z.1.1.0, (over_alike t _ _ p z.0 z.1.1.1.1.0 q.1.1.0, z.1.1.1.1.1))))

pub returns-clause-leads : goal.returns-clause-leads
returns-clause-leads c = λ p answer over w.
    subst (λ o. Leads c.args.proving.now.theory.now c.args.proving.now.statement.now c.loop-shown.store
    c.loop-shown.draft p o answer) c.in_default.is (c.loop-shown.invariant.leads p answer over w)

pub returns-in_err-shown-clause-refused : goal.returns-in_err-shown-clause-refused
returns-in_err-shown-clause-refused c =
    let q = err_from_is_err_and c.from_residual.result c.from_residual.ensures.1 in
    let t = c.args.proving.now.theory.now in let s = c.args.proving.now.statement.now in
    rw (q.1, q.2) (λ p answer over w.
    let z = subst (λ o. Leads t s c.loop-shown.store c.loop-shown.draft p o answer) c.in-Some.is
    (c.loop-shown.invariant.leads p answer over w) in
    tells_same _ _ c.in_err-shown.field-0.0 z.1.1.1.0
    (c.in_err-shown.ensures.refused z.0 z.1.0 z.1.1.0 (over_alike t _ _ p z.0 z.1.1.1.1.0 over) z.1.1.1.1.1))

pub returns-in_err-shown-clause-grows : goal.returns-in_err-shown-clause-grows
returns-in_err-shown-clause-grows c =
    grows_trans _ _ _ c.loop-shown.invariant.grows c.in_err-shown.ensures.grows
