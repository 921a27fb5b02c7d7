-- What is written is read, boxes are opened for it, and then the instance is added.
use Rattle.std.proofs.Common.{subst, sym, ◌∙◌}
use Rattle.std.proofs.lemmas.Result.{err_from_is_err_and}
use Rattle.larch_prove_work.specs.ProveAddingKeptFacts.{facts_of}
use Rattle.larch_prove_facts.proofs.Instantiated.{asked_refused, boxes_opened, entries_refuse, instantiates, may_ask}
use Rattle.larch_prove_facts.proofs.Instantiated.{undone_boxed}
use Rattle.larch_prove_facts.proofs.Undone.{facts_of_work, may_go_on}
use Rattle.larch_prove_facts.proofs.Worked.{facts_are}
use Rattle.larch_prove_facts.proofs.instantiation.instantiate.Goals as goal
use Rattle.larch_prove_meaning.specs.Steps.{instantiate}
use Rattle.larch_prove_work.proofs.ProveSettlingLeaving.{if_answered, if_refused}
use Rattle.larch_prove_work.proofs.Readings.{tells_as}
use Rattle.larch_prove_work.specs.Work.{Makes}

pub read_entries-requires-clause-settings : goal.read_entries-requires-clause-settings
read_entries-requires-clause-settings c = (c.requires.works.0, c.requires.works.1.work.settings)

pub returns-in_err-entries-clause-refused : goal.returns-in_err-entries-clause-refused
returns-in_err-entries-clause-refused c =
    let t = c.args.claim.now.theory in let s = c.args.claim.now.statement in let w = c.args.work.now in
    let q = err_from_is_err_and c.from_residual.result c.from_residual.ensures.1 in
    rw (q.1, q.2) (λ p m.
    entries_refuse c.args.fact.now c.args.instances.now p (facts_of w.draft.current.facts) c.in_err-entries.field-0.0
    (facts_of_work t s w p (may_go_on t s w p m)) (c.in_err-entries.ensures.refused p m.work.settings))

pub returns-in_err-asked-clause-refused : goal.returns-in_err-asked-clause-refused
returns-in_err-asked-clause-refused c =
    let t = c.args.claim.now.theory in let s = c.args.claim.now.statement in let w = c.args.work.now in
    let is = c.args.instances.now in let n = c.args.fact.now in let es = c.in_ok-entries.entries in
    let d = c.open_boxes.new.draft in
    let q = err_from_is_err_and c.from_residual-in_err-asked.result c.from_residual-in_err-asked.ensures.1 in
    rw (q.1, q.2) (λ p m.
    let read = c.in_ok-entries.ensures.read p m.work.settings in
    let o = boxes_opened t s w p m is n es read d c.as_slice-block.result.now c.as_slice.result.now
    (c.as_slice-block.ensures ∙ c.deref.ensures) c.as_slice.ensures c.in_ok-open_boxes.ensures in
    asked_refused n is p (facts_of d.current.facts) c.in_err-asked.field-0.0
    (facts_are t s w.store d p o.1.0.0 o.0 o.1.0.1) c.in_err-asked.ensures.refused)

pub settle_instance-requires-clause-works : goal.settle_instance-requires-clause-works
settle_instance-requires-clause-works c =
    let t = c.args.claim.now.theory in let s = c.args.claim.now.statement in let w = c.args.work.now in
    let is = c.args.instances.now in let n = c.args.fact.now in let es = c.in_ok-entries.entries in
    let d = c.open_boxes.new.draft in
    let p = c.requires.works.0 in let m = c.requires.works.1 in
    let read = c.in_ok-entries.ensures.read p m.work.settings in
    let o = boxes_opened t s w p m is n es read d c.as_slice-block.result.now c.as_slice.result.now
    (c.as_slice-block.ensures ∙ c.deref.ensures) c.as_slice.ensures c.in_ok-open_boxes.ensures in (
      p,
      undone_boxed t s w p m is n es read d o.0 o.1.0 c.in_ok-asked.asked c.in_ok-asked.ensures.fact
          c.in_ok-asked.ensures.entries c.in_ok-asked.ensures.named,
    )

pub settle_instance-requires-clause-may : goal.settle_instance-requires-clause-may
settle_instance-requires-clause-may c =
    let t = c.args.claim.now.theory in let s = c.args.claim.now.statement in let w = c.args.work.now in
    let is = c.args.instances.now in let n = c.args.fact.now in let es = c.in_ok-entries.entries in
    let d = c.open_boxes.new.draft in
    let p = c.requires.works.0 in let m = c.requires.works.1 in
    let read = c.in_ok-entries.ensures.read p m.work.settings in
    let o = boxes_opened t s w p m is n es read d c.as_slice-block.result.now c.as_slice.result.now
    (c.as_slice-block.ensures ∙ c.deref.ensures) c.as_slice.ensures c.in_ok-open_boxes.ensures in
    may_ask t s w p m is n es read d o.0 o.1.0 c.in_ok-asked.asked c.in_ok-asked.ensures.fact
    c.in_ok-asked.ensures.entries c.in_ok-asked.ensures.named
    c.in_ok-asked.ensures.said o.1.1

pub returns-clause-instantiated : goal.returns-clause-instantiated
returns-clause-instantiated c =
    let t = c.args.claim.now.theory in let s = c.args.claim.now.statement in let w = c.args.work.now in
    let is = c.args.instances.now in let n = c.args.fact.now in let es = c.in_ok-entries.entries in
    let d = c.open_boxes.new.draft in
    if_answered _ _ c.settle_instance.result (λ x h p m.
    let read = c.in_ok-entries.ensures.read p m.work.settings in
    let o = boxes_opened t s w p m is n es read d c.as_slice-block.result.now c.as_slice.result.now
    (c.as_slice-block.ensures ∙ c.deref.ensures) c.as_slice.ensures c.in_ok-open_boxes.ensures in
    subst (Makes t s c.settle_instance.new.work p)
    (sym (instantiates t s w p m is n es read d o.0 o.1.0 c.in_ok-asked.asked c.in_ok-asked.ensures.fact
    c.in_ok-asked.ensures.entries c.in_ok-asked.ensures.named))
    (h p (undone_boxed t s w p m is n es read d o.0 o.1.0 c.in_ok-asked.asked c.in_ok-asked.ensures.fact
    c.in_ok-asked.ensures.entries c.in_ok-asked.ensures.named))) c.settle_instance.ensures.made

pub returns-clause-refused : goal.returns-clause-refused
returns-clause-refused c =
    let t = c.args.claim.now.theory in let s = c.args.claim.now.statement in let w = c.args.work.now in
    let is = c.args.instances.now in let n = c.args.fact.now in let es = c.in_ok-entries.entries in
    let d = c.open_boxes.new.draft in
    if_refused _ _ c.settle_instance.result (λ r h p m.
    let read = c.in_ok-entries.ensures.read p m.work.settings in
    let o = boxes_opened t s w p m is n es read d c.as_slice-block.result.now c.as_slice.result.now
    (c.as_slice-block.ensures ∙ c.deref.ensures) c.as_slice.ensures c.in_ok-open_boxes.ensures in
    tells_as (instantiate is n p) _ r
    (instantiates t s w p m is n es read d o.0 o.1.0 c.in_ok-asked.asked c.in_ok-asked.ensures.fact
    c.in_ok-asked.ensures.entries c.in_ok-asked.ensures.named)
    (h p (undone_boxed t s w p m is n es read d o.0 o.1.0 c.in_ok-asked.asked c.in_ok-asked.ensures.fact
    c.in_ok-asked.ensures.entries c.in_ok-asked.ensures.named))) c.settle_instance.ensures.refused
