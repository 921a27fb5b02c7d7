-- The fact is found and taken out, and its equation is added alone.
use Rattle.std.proofs.Common.{[], ◌∷◌, All, List, ap, map, subst, sym, ◌∙◌}
use Rattle.std.proofs.lemmas.List.Elements.{All-cons, All-nil}
use Rattle.std.proofs.lemmas.Result.{err_from_is_err_and}
use Rattle.larch_prove_work.specs.ProveAddingEquation.{IsSaid, sides_in}
use Rattle.larch_prove_work.specs.ProveAddingKeptFacts.{facts_of}
use Rattle.larch_prove_work.specs.ProveAddingEquationSaidEquation.{SaidEquation}
use Rattle.larch_prove_facts.proofs.Among.{normalized_so, unnamed}
use Rattle.larch_prove_facts.proofs.Undone.{facts_of_work, may_go_on, undone_stands, undone_without, work_said}
use Rattle.larch_prove_facts.proofs.normal.normalize.Goals as goal
use Rattle.larch_prove_facts.specs.Derivation.{all_settled}
use Rattle.larch_prove_meaning.specs.Steps.{normalize, without}
use Rattle.larch_prove_work.specs.ProveSettingsTelling.{Tells}
use Rattle.larch_prove_work.proofs.ProveSettlingLeaving.{if_answered, if_refused}
use Rattle.larch_prove_work.proofs.Readings.{tells_as}
use Rattle.larch_prove_work.specs.Work.{Makes}

pub derive_facts-requires-clause-works : goal.derive_facts-requires-clause-works
derive_facts-requires-clause-works c =
    let t = c.args.claim.now.theory in let s = c.args.claim.now.statement in let w = c.args.work.now in
    let p = c.requires.works.0 in let m = may_go_on t s w p c.requires.works.1 in
    let z = undone_stands t s w p m in (
      without c.args.fact.now p,
      undone_without t s w c.take_out.new.draft c.args.fact.now p z.1.0 m
          (c.in_ok-take_out.ensures.stands t s w.store p z.0 z.1.0 z.1.1),
    )

pub derive_facts-requires-clause-said : goal.derive_facts-requires-clause-said
derive_facts-requires-clause-said c =
    let t = c.args.claim.now.theory in let s = c.args.claim.now.statement in let w = c.args.work.now in
    let m = may_go_on t s w c.requires.works.0 c.requires.works.1 in
    let b = c.take_out.new.draft.builder in
    subst (All (IsSaid b)) (sym c.in_ok-equations.ensures)
    (All-cons (IsSaid b) c.in_ok-equation.equation []
    (subst (λ a. IsSaid a c.in_ok-equation.equation) (sym c.in_ok-take_out.ensures.builder)
    (c.in_ok-equation.ensures.said w.draft.builder (work_said t s w c.requires.works.0 m)))
    (All-nil (IsSaid b)))

pub returns-clause-normalized : goal.returns-clause-normalized
returns-clause-normalized c =
    let t = c.args.claim.now.theory in let s = c.args.claim.now.statement in let w = c.args.work.now in
    let n = c.args.fact.now in let v = c.derive_facts.new.work in
    if_answered _ _ c.derive_facts.result (λ x h p m.
    let u = may_go_on t s w p m in let z = undone_stands t s w p u in
    subst (Makes t s v p)
    (sym (normalized_so n p (facts_of w.draft.current.facts) (sides_in c.in_ok-equation.equation)
    (facts_of_work t s w p u) c.in_ok-equation.ensures.named
    ∙ ap (λ (es : List SaidEquation). all_settled (map sides_in es) (without n p)) (sym c.in_ok-equations.ensures)))
    (h (without n p) (undone_without t s w c.take_out.new.draft n p z.1.0 u
    (c.in_ok-take_out.ensures.stands t s w.store p z.0 z.1.0 z.1.1)))) c.derive_facts.ensures.made

pub returns-clause-refused : goal.returns-clause-refused
returns-clause-refused c =
    let t = c.args.claim.now.theory in let s = c.args.claim.now.statement in let w = c.args.work.now in
    let n = c.args.fact.now in
    if_refused _ _ c.derive_facts.result (λ r h p m.
    let u = may_go_on t s w p m in let z = undone_stands t s w p u in
    tells_as (normalize n p) _ r
    (normalized_so n p (facts_of w.draft.current.facts) (sides_in c.in_ok-equation.equation)
    (facts_of_work t s w p u) c.in_ok-equation.ensures.named
    ∙ ap (λ (es : List SaidEquation). all_settled (map sides_in es) (without n p)) (sym c.in_ok-equations.ensures))
    (h (without n p) (undone_without t s w c.take_out.new.draft n p z.1.0 u
    (c.in_ok-take_out.ensures.stands t s w.store p z.0 z.1.0 z.1.1)))) c.derive_facts.ensures.refused

pub returns-in_err-equation-clause-refused : goal.returns-in_err-equation-clause-refused
returns-in_err-equation-clause-refused c =
    let t = c.args.claim.now.theory in let s = c.args.claim.now.statement in let w = c.args.work.now in
    let q = err_from_is_err_and c.from_residual.result c.from_residual.ensures.1 in
    rw (q.1, q.2) (λ p m.
    unnamed c.args.fact.now p (facts_of w.draft.current.facts) c.in_err-equation.field-0.0
    (facts_of_work t s w p (may_go_on t s w p m)) c.in_err-equation.ensures.refused)
