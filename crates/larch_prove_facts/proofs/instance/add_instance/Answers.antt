-- The facts get the instance, and then the goal gets its normal form.
use Rattle.std.proofs.Common.{Ok, ap, arith, inl, inr, refl, subst, sym, ◌<◌, ◌≤◌, ◌∙◌}
use Rattle.std.proofs.lemmas.Result.{err_from_is_err_and}
use Rattle.std.proofs.lemmas.Bool.{cases_lt}
use Rattle.larch_base.specs.declared.fact_name.FactLetter.TheVariants.{Derived}
use Rattle.larch_base.specs.declared.fact_name.FactName.{FactName}
use Rattle.larch_derive.proofs.Growth.{extends_trans, stays_said}
use Rattle.larch_prove_work.specs.ProveAddingBeside.{manner_beside}
use Rattle.larch_prove_work.specs.ProveAddingKeptFacts.{facts_of}
use Rattle.larch_prove_facts.proofs.Beside.{beside_by}
use Rattle.larch_prove_facts.proofs.instance.add_instance.Goals as goal
use Rattle.larch_prove_facts.specs.Instance.{MayInstantiate, instance_in}
use Rattle.larch_prove_work.proofs.ProveLevelsHypotheses.{too_many}
use Rattle.larch_prove_work.proofs.ProveLevelsTelling.{tells_code, tells_first, tells_same}
use Rattle.larch_prove_work.specs.ProveLevelsDerived.{with_normal_goal}
use Rattle.larch_prove_meaning.specs.Facts.{Facts, max_fact_number, whole_name}
use Rattle.larch_prove_meaning.specs.Levels.{work_result}
use Rattle.larch_prove_work.proofs.ProveSettlingLeaving.{if_answered, if_refused}
use Rattle.larch_rewrite_meaning.specs.Work.{Work}
use Rattle.larch_store.proofs.Growth.{belongs_stays, grows_trans}
use Rattle.larch_store.specs.Numbered.{term_of}
use Rattle.larch_base_meaning.specs.Steps.{after}

pub returns-in_default-clause-refused : goal.returns-in_default-clause-refused
returns-in_default-clause-refused c =
    let large : max_fact_number < c.args.next.now =
    elim (cases_lt c.args.next.now 4294967296) [
      | inl l ↦ absurd (c.in_default.ensures l)
      | inr g ↦ omega (arith, g)
    ] in
    ap (λ (w : Work Facts). after (work_result w)
    (with_normal_goal c.args.around.now.limit (term_of c.args.level.now.goal.term)))
    (too_many (manner_beside c.args.asked.now.fact c.args.around.now.precedence.now (whole_name Derived
    c.args.next.now)) (instance_in c.args.asked.now) (facts_of c.args.level.now.facts) c.args.around.now.limit large)

pub add_asked-requires-clause-may : goal.add_asked-requires-clause-may
add_asked-requires-clause-may c =
    subst (λ i. MayInstantiate c.args.builder.now i c.args.asked.now)
    (sym (ap (λ (m : FactName). m.number) c.manner_for-manner.ensures.name ∙ c.in-Ok.ensures.1)) c.requires.may

pub add_asked-requires-clause-name : goal.add_asked-requires-clause-name
add_asked-requires-clause-name c =
    let e = c.manner_for-manner.ensures.name in
    e ∙ ap (whole_name Derived) (sym (ap (λ (m : FactName). m.number) e))

pub add_asked-requires-clause-small : goal.add_asked-requires-clause-small
add_asked-requires-clause-small c =
    subst (λ i. i ≤ max_fact_number) (sym (ap (λ (m : FactName). m.number) c.manner_for-manner.ensures.name))
    c.manner_for-manner.ensures.small

pub returns-in_err-add_asked-clause-refused : goal.returns-in_err-add_asked-clause-refused
returns-in_err-add_asked-clause-refused c =
    let q = err_from_is_err_and c.from_residual.result c.from_residual.ensures.1 in
    let m = c.manner_for-manner.ensures in let r = c.in_err-add_asked.field-0.0 in
    rw (q.1, q.2)
    (tells_same _ _ r
    (beside_by c.args.asked.now.fact _ _ _ _ (instance_in c.args.asked.now) c.args.next.now _
    (record { facts = facts_of c.args.level.now.facts; goal = term_of c.args.level.now.goal.term }) _ m.precedence
    m.budget (m.name ∙ ap (whole_name Derived) c.in-Ok.ensures.1) refl)
    (tells_first _ _ r (tells_code _ r c.in_err-add_asked.ensures.refused)))

pub normalise_goal-requires : goal.normalise_goal-requires
normalise_goal-requires c = record {
  goal = belongs_stays _ _ _ c.in_ok-add_asked.ensures.grows c.requires.ready.goal;
  kept = c.in_ok-add_asked.ensures.kept;
  said = c.in_ok-add_asked.ensures.said;
  way = stays_said _ _ _ _ c.in_ok-add_asked.ensures.extends c.requires.ready.way;
}

pub returns-clause-derived : goal.returns-clause-derived
returns-clause-derived c =
    let m = c.manner_for-manner.ensures in
    if_answered _ _ c.normalise_goal.result (λ x normal.
    beside_by c.args.asked.now.fact _ _ _ _ (instance_in c.args.asked.now) c.args.next.now _
    (record { facts = facts_of c.args.level.now.facts; goal = term_of c.args.level.now.goal.term }) _ m.precedence
    m.budget (m.name ∙ ap (whole_name Derived) c.in-Ok.ensures.1) c.in_ok-add_asked.ensures.added
    ∙ ap (λ r. after r (λ g. Ok (record { facts = facts_of c.add_asked.new.facts; goal = g }))) normal
    ∙ ap (λ (fs : Facts). Ok (record { facts = fs; goal = term_of c.normalise_goal.new.level.goal.term }))
    (sym c.normalise_goal.ensures.facts)) c.normalise_goal.ensures.normal

pub returns-clause-refused : goal.returns-clause-refused
returns-clause-refused c =
    let m = c.manner_for-manner.ensures in
    if_refused _ _ c.normalise_goal.result (λ r h.
    tells_same _ _ r
    (beside_by c.args.asked.now.fact _ _ _ _ (instance_in c.args.asked.now) c.args.next.now _
    (record { facts = facts_of c.args.level.now.facts; goal = term_of c.args.level.now.goal.term }) _ m.precedence
    m.budget (m.name ∙ ap (whole_name Derived) c.in-Ok.ensures.1) c.in_ok-add_asked.ensures.added)
    (tells_first _ _ r h)) c.normalise_goal.ensures.refused

pub returns-clause-grows : goal.returns-clause-grows
returns-clause-grows c = grows_trans _ _ _ c.in_ok-add_asked.ensures.grows c.normalise_goal.ensures.grows

pub returns-clause-extends : goal.returns-clause-extends
returns-clause-extends c = extends_trans _ _ _ c.in_ok-add_asked.ensures.extends c.normalise_goal.ensures.extends
