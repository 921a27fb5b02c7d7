use Rattle.std.specs.Prelude.{Ok}
use Rattle.std.proofs.Common.{subst, sym}
use Rattle.larch_term.specs.Truth.{truth}
use Rattle.larch_derive.specs.Predicates.{HasEquation}
use Rattle.larch_derive.proofs.Growth.{extends_refl}
use Rattle.larch_prove_invariant.specs.Holding.{premise}
use Rattle.larch_prove_boxes.proofs.Results.{ok_kept, there_kept, there_too}
use Rattle.larch_prove_boxes.proofs.Wants.{ExtendsLeft, SaysLeft, goal_extends_as, goal_said_as}
use Rattle.larch_prove_boxes.proofs.saying.say_left.Goals as goal

pub returns-in-Implication-clause-says : goal.returns-in-Implication-clause-says
returns-in-Implication-clause-says c =
    subst
    (SaysLeft c.args.builder.now c.say_implied.new.builder c.args.subgoal.now c.args.number c.args.line
    c.say_implied.result) (sym c.in-Implication.is) c.say_implied.ensures.says

pub returns-in-Implication-clause-extends : goal.returns-in-Implication-clause-extends
returns-in-Implication-clause-extends c =
    subst
    (ExtendsLeft c.args.builder.now c.say_implied.new.builder c.args.subgoal.now c.args.number c.args.line
    c.say_implied.result) (sym c.in-Implication.is) c.say_implied.ensures.extends

pub returns-in-Contradiction-clause-says : goal.returns-in-Contradiction-clause-says
returns-in-Contradiction-clause-says c =
    subst
    (SaysLeft c.args.builder.now c.push_contradicted.new.builder c.args.subgoal.now c.args.number c.args.line
    c.push_contradicted.result) (sym c.in-Contradiction.is)
    (ok_kept _ _ c.push_contradicted.result c.push_contradicted.ensures.says (λ n f g e w h.
    f w.0 (premise g.hypotheses) w.1.0 w.1.1.1
    (subst (λ t. HasEquation c.args.builder.now c.args.line t truth) w.1.1.0 h)))

pub returns-in-Contradiction-clause-extends : goal.returns-in-Contradiction-clause-extends
returns-in-Contradiction-clause-extends c =
    subst
    (ExtendsLeft c.args.builder.now c.push_contradicted.new.builder c.args.subgoal.now c.args.number c.args.line
    c.push_contradicted.result) (sym c.in-Contradiction.is)
    (there_too _ c.push_contradicted.result (λ g e w h.
    c.push_contradicted.ensures.extends w.0 (premise g.hypotheses) w.1.0 w.1.1.1
    (subst (λ t. HasEquation c.args.builder.now c.args.line t truth) w.1.1.0 h)))

pub returns-in-Partition-clause-says : goal.returns-in-Partition-clause-says
returns-in-Partition-clause-says c =
    subst
    (SaysLeft c.args.builder.now c.say_observed.new.builder c.args.subgoal.now c.args.number c.args.line
    c.say_observed.result) (sym c.in-Partition.is)
    (ok_kept _ _ c.say_observed.result c.say_observed.ensures.says (λ n f g e w h.
    goal_said_as _ _ c.args.subgoal.now g c.args.line n e w h f))

pub returns-in-Partition-clause-extends : goal.returns-in-Partition-clause-extends
returns-in-Partition-clause-extends c =
    subst
    (ExtendsLeft c.args.builder.now c.say_observed.new.builder c.args.subgoal.now c.args.number c.args.line
    c.say_observed.result) (sym c.in-Partition.is)
    (there_kept _ _ c.say_observed.result c.say_observed.ensures.extends (λ f g e w h.
    goal_extends_as _ _ c.args.subgoal.now g c.args.line e w h f))

pub returns-in-Cases-clause-says : goal.returns-in-Cases-clause-says
returns-in-Cases-clause-says c =
    subst
    (SaysLeft c.args.builder.now c.args.builder.now c.args.subgoal.now c.args.number c.args.line (Ok c.args.line))
    (sym c.in-Cases.is) (λ g e w h. h)

pub returns-in-Cases-clause-extends : goal.returns-in-Cases-clause-extends
returns-in-Cases-clause-extends c g e w h = extends_refl _

pub returns-in-Conjunction-clause-says : goal.returns-in-Conjunction-clause-says
returns-in-Conjunction-clause-says c =
    subst
    (SaysLeft c.args.builder.now c.args.builder.now c.args.subgoal.now c.args.number c.args.line (Ok c.args.line))
    (sym c.in-Conjunction.is) (λ g e w h. h)

pub returns-in-Conjunction-clause-extends : goal.returns-in-Conjunction-clause-extends
returns-in-Conjunction-clause-extends c g e w h = extends_refl _

pub returns-in-Induction-clause-says : goal.returns-in-Induction-clause-says
returns-in-Induction-clause-says c =
    subst
    (SaysLeft c.args.builder.now c.args.builder.now c.args.subgoal.now c.args.number c.args.line (Ok c.args.line))
    (sym c.in-Induction.is) (λ g e w h. h)

pub returns-in-Induction-clause-extends : goal.returns-in-Induction-clause-extends
returns-in-Induction-clause-extends c g e w h = extends_refl _
