-- The facts are added to, and then the goal gets its normal form.
use Rattle.std.proofs.Common.{ap, arith, inl, inr, ◌<◌}
use Rattle.std.proofs.lemmas.Bool.{cases_lt}
use Rattle.larch_base.specs.declared.fact_name.FactLetter.TheVariants.{Derived}
use Rattle.larch_prove_boxes.proofs.DeriveGrowth.{extends_trans, stays_said}
use Rattle.larch_prove_adding.specs.Equation.{sides_in}
use Rattle.larch_prove_adding.specs.KeptFacts.{facts_of}
use Rattle.larch_prove_levels.specs.Derived.{with_normal_goal}
use Rattle.larch_prove_levels.proofs.Hypotheses.{too_many}
use Rattle.larch_prove_levels.proofs.further.derive.Goals as goal
use Rattle.larch_prove_boxes.specs.ProveMeaningFacts.{Facts, max_fact_number, whole_name}
use Rattle.larch_prove_boxes.specs.ProveMeaningLevels.{all_serve, work_result}
use Rattle.larch_prove_adding.specs.RewriteMeaningWork.{Work}
use Rattle.larch_store.proofs.Growth.{belongs_stays, grows_trans}
use Rattle.larch_store.specs.Numbered.{term_of}
use Rattle.larch_base_meaning.specs.Steps.{after}

pub returns-in_default-clause-refused : goal.returns-in_default-clause-refused
returns-in_default-clause-refused c =
    let large : max_fact_number < c.args.next.now =
    elim (cases_lt c.args.next.now 4294967296) [
      | inl l ↦ absurd (c.in_default.ensures l)
      | inr g ↦ omega (arith, g)
    ] in
    ap (λ (w : Work Facts). after (work_result w)
    (with_normal_goal c.args.around.now.limit (term_of c.args.level.now.goal.term)))
    (too_many (record {
      serves = all_serve;
      ranks = c.args.around.now.precedence.now;
      name = whole_name Derived c.args.next.now;
    }) (sides_in c.args.equation) (facts_of c.args.level.now.facts) c.args.around.now.limit large)

pub normalise_goal-requires : goal.normalise_goal-requires
normalise_goal-requires c = record {
  goal = belongs_stays _ _ _ c.in_ok-add.ensures.grows c.requires.ready.goal;
  kept = c.in_ok-add.ensures.kept;
  said = c.in_ok-add.ensures.said;
  way = stays_said _ _ _ _ c.in_ok-add.ensures.extends c.requires.ready.way;
}

pub returns-clause-grows : goal.returns-clause-grows
returns-clause-grows c = grows_trans _ _ _ c.in_ok-add.ensures.grows c.normalise_goal.ensures.grows

pub returns-clause-extends : goal.returns-clause-extends
returns-clause-extends c = extends_trans _ _ _ c.in_ok-add.ensures.extends c.normalise_goal.ensures.extends
