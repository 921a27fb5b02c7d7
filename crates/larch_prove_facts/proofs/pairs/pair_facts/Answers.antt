-- The pairs are formed, and then they are added.
use Rattle.std.proofs.Common.{map, subst, sym}
use Rattle.std.proofs.lemmas.Result.{err_from_is_err_and}
use Rattle.larch_prove_work.specs.ProveAddingEquation.{sides_in}
use Rattle.larch_prove_work.specs.ProveAddingKeptFacts.{facts_of}
use Rattle.larch_prove_facts.proofs.Among.{pairs_added, pairs_refused}
use Rattle.larch_prove_facts.proofs.Undone.{facts_of_work, may_go_on, undone_further, work_applies, work_parts}
use Rattle.larch_prove_facts.proofs.Undone.{work_said}
use Rattle.larch_prove_facts.proofs.pairs.pair_facts.Goals as goal
use Rattle.larch_prove_meaning.specs.Steps.{pair_facts}
use Rattle.larch_prove_work.proofs.ProveSettlingLeaving.{if_answered, if_refused}
use Rattle.larch_prove_work.proofs.Readings.{tells_as}
use Rattle.larch_prove_work.specs.Work.{Makes}

pub pairs_of_facts-requires-clause-said : goal.pairs_of_facts-requires-clause-said
pairs_of_facts-requires-clause-said c =
    work_said c.args.claim.now.theory c.args.claim.now.statement c.args.work.now c.requires.works.0
    (may_go_on _ _ _ _ c.requires.works.1)

pub pairs_of_facts-requires-clause-parts : goal.pairs_of_facts-requires-clause-parts
pairs_of_facts-requires-clause-parts c =
    work_parts c.args.claim.now.theory c.args.claim.now.statement c.args.work.now c.requires.works.0
    (may_go_on _ _ _ _ c.requires.works.1)

pub pairs_of_facts-requires-clause-apply : goal.pairs_of_facts-requires-clause-apply
pairs_of_facts-requires-clause-apply c =
    work_applies c.args.claim.now.theory c.args.claim.now.statement c.args.work.now c.requires.works.0
    c.requires.works.1

pub derive_facts-requires-clause-works : goal.derive_facts-requires-clause-works
derive_facts-requires-clause-works c =
    let t = c.args.claim.now.theory in let s = c.args.claim.now.statement in let w = c.args.work.now in
    let p = c.requires.works.0 in (
      p,
      undone_further t s w c.pairs_of_facts.new.draft c.pairs_of_facts.new.draft.builder p
          c.in_ok-equations.ensures.rest c.in_ok-equations.ensures.extends (may_go_on t s w p c.requires.works.1),
    )

pub returns-clause-paired : goal.returns-clause-paired
returns-clause-paired c =
    let t = c.args.claim.now.theory in let s = c.args.claim.now.statement in let w = c.args.work.now in
    if_answered _ _ c.derive_facts.result (λ x h p m.
    let u = may_go_on t s w p m in
    subst (Makes t s c.derive_facts.new.work p)
    (sym (pairs_added c.args.first.now c.args.second.now p (facts_of w.draft.current.facts)
    (map sides_in c.in_ok-equations.equations.items) (facts_of_work t s w p u) c.in_ok-equations.ensures.pairs))
    (h p (undone_further t s w c.pairs_of_facts.new.draft c.pairs_of_facts.new.draft.builder p
    c.in_ok-equations.ensures.rest c.in_ok-equations.ensures.extends u))) c.derive_facts.ensures.made

pub returns-clause-refused : goal.returns-clause-refused
returns-clause-refused c =
    let t = c.args.claim.now.theory in let s = c.args.claim.now.statement in let w = c.args.work.now in
    if_refused _ _ c.derive_facts.result (λ r h p m.
    let u = may_go_on t s w p m in
    tells_as (pair_facts c.args.first.now c.args.second.now p) _ r
    (pairs_added c.args.first.now c.args.second.now p (facts_of w.draft.current.facts)
    (map sides_in c.in_ok-equations.equations.items) (facts_of_work t s w p u) c.in_ok-equations.ensures.pairs)
    (h p (undone_further t s w c.pairs_of_facts.new.draft c.pairs_of_facts.new.draft.builder p
    c.in_ok-equations.ensures.rest c.in_ok-equations.ensures.extends u))) c.derive_facts.ensures.refused

pub returns-in_err-equations-clause-refused : goal.returns-in_err-equations-clause-refused
returns-in_err-equations-clause-refused c =
    let t = c.args.claim.now.theory in let s = c.args.claim.now.statement in let w = c.args.work.now in
    let q = err_from_is_err_and c.from_residual.result c.from_residual.ensures.1 in
    rw (q.1, q.2) (λ p m.
    pairs_refused c.args.first.now c.args.second.now p (facts_of w.draft.current.facts) c.in_err-equations.field-0.0
    (facts_of_work t s w p (may_go_on t s w p m)) c.in_err-equations.ensures.refused)
