use Rattle.std.specs.Prelude.{option_map}
use Rattle.std.proofs.Common.{ap}
use Rattle.larch_prove_invariant.specs.ProveMeaningPlans.{Cases, Conjunction, Contradiction}
use Rattle.larch_prove_invariant.specs.ProveMeaningPlans.{Implication, Induction, Partition}
use Rattle.larch_prove_invariant.specs.ProvePlansPlanning.{method_of}
use Rattle.larch_prove_boxes.proofs.Ended.{left_by}
use Rattle.larch_prove_boxes.proofs.Handed.{boxed_says, boxed_stands, plain_says, plain_stands, some_says, some_stands}
use Rattle.larch_prove_boxes.proofs.ending.end_method.Goals as goal

pub end_cases-requires : goal.end_cases-requires
end_cases-requires c =
    let w = c.requires.left in (
      w.0,
      (
        c.args.goal.now,
        left_by w.0 _ _ (Cases c.in-Cases.formula) c.args.goal.now _ _
            (ap method_of c.in-Cases.is) w.1,
      ),
    )

pub returns-in-Cases-clause-says : goal.returns-in-Cases-clause-says
returns-in-Cases-clause-says c =
    some_says c.end_cases.result c.args.builder.now c.end_cases.new.builder (Cases c.in-Cases.formula)
    (method_of c.args.method.now) c.args.goal.now (option_map (λ x. x.now) c.args.lefts.now.shared)
    c.args.lefts.now.subgoals.now (ap method_of c.in-Cases.is) c.requires.left
    c.end_cases.ensures.says

pub returns-in-Cases-clause-stands : goal.returns-in-Cases-clause-stands
returns-in-Cases-clause-stands c =
    some_stands c.end_cases.result c.args.builder.now c.end_cases.new.builder (Cases c.in-Cases.formula)
    (method_of c.args.method.now) c.args.goal.now (option_map (λ x. x.now) c.args.lefts.now.shared)
    c.args.lefts.now.subgoals.now (ap method_of c.in-Cases.is) c.end_cases.ensures.grows

pub end_implication-requires : goal.end_implication-requires
end_implication-requires c =
    let w = c.requires.left in
    (w.0, left_by w.0 _ _ Implication c.args.goal.now _ _ (ap method_of c.in-Implication.is) w.1)

pub returns-in-Implication-clause-says : goal.returns-in-Implication-clause-says
returns-in-Implication-clause-says c =
    plain_says c.end_implication.result c.args.builder.now c.end_implication.new.builder Implication
    (method_of c.args.method.now) c.args.goal.now (option_map (λ x. x.now) c.args.lefts.now.shared)
    c.args.lefts.now.subgoals.now (ap method_of c.in-Implication.is) c.requires.left
    c.end_implication.ensures.says

pub returns-in-Implication-clause-stands : goal.returns-in-Implication-clause-stands
returns-in-Implication-clause-stands c =
    plain_stands c.end_implication.result c.args.builder.now c.end_implication.new.builder Implication
    (method_of c.args.method.now) c.args.goal.now (option_map (λ x. x.now) c.args.lefts.now.shared)
    c.args.lefts.now.subgoals.now (ap method_of c.in-Implication.is) c.end_implication.ensures.grows

pub returns-in-Conjunction-clause-says : goal.returns-in-Conjunction-clause-says
returns-in-Conjunction-clause-says c =
    boxed_says c.end_conjunction.result c.args.builder.now c.end_conjunction.new.builder Conjunction
    (method_of c.args.method.now) c.args.goal.now (option_map (λ x. x.now) c.args.lefts.now.shared)
    c.args.lefts.now.subgoals.now (ap method_of c.in-Conjunction.is) c.requires.left
    c.end_conjunction.ensures.says

pub returns-in-Conjunction-clause-stands : goal.returns-in-Conjunction-clause-stands
returns-in-Conjunction-clause-stands c =
    boxed_stands c.end_conjunction.result c.args.builder.now c.end_conjunction.new.builder Conjunction
    (method_of c.args.method.now) c.args.goal.now (option_map (λ x. x.now) c.args.lefts.now.shared)
    c.args.lefts.now.subgoals.now (ap method_of c.in-Conjunction.is) c.end_conjunction.ensures.grows

pub end_contradiction-requires : goal.end_contradiction-requires
end_contradiction-requires c =
    let w = c.requires.left in
    (w.0, left_by w.0 _ _ Contradiction c.args.goal.now _ _ (ap method_of c.in-Contradiction.is) w.1)

pub returns-in-Contradiction-clause-says : goal.returns-in-Contradiction-clause-says
returns-in-Contradiction-clause-says c =
    plain_says c.end_contradiction.result c.args.builder.now c.end_contradiction.new.builder Contradiction
    (method_of c.args.method.now) c.args.goal.now (option_map (λ x. x.now) c.args.lefts.now.shared)
    c.args.lefts.now.subgoals.now (ap method_of c.in-Contradiction.is) c.requires.left
    c.end_contradiction.ensures.says

pub returns-in-Contradiction-clause-stands : goal.returns-in-Contradiction-clause-stands
returns-in-Contradiction-clause-stands c =
    plain_stands c.end_contradiction.result c.args.builder.now c.end_contradiction.new.builder Contradiction
    (method_of c.args.method.now) c.args.goal.now (option_map (λ x. x.now) c.args.lefts.now.shared)
    c.args.lefts.now.subgoals.now (ap method_of c.in-Contradiction.is) c.end_contradiction.ensures.grows

pub end_induction-requires-clause-left : goal.end_induction-requires-clause-left
end_induction-requires-clause-left c =
    let w = c.requires.left in (
      w.0,
      (
        option_map (λ x. x.now) c.args.lefts.now.shared,
        left_by w.0 _ _ (Induction c.in-Induction.name) c.args.goal.now _ _
            (ap method_of c.in-Induction.is) w.1,
      ),
    )

pub returns-in-Induction-clause-says : goal.returns-in-Induction-clause-says
returns-in-Induction-clause-says c =
    boxed_says c.end_induction.result c.args.builder.now c.end_induction.new.builder (Induction c.in-Induction.name)
    (method_of c.args.method.now) c.args.goal.now (option_map (λ x. x.now) c.args.lefts.now.shared)
    c.args.lefts.now.subgoals.now (ap method_of c.in-Induction.is) c.requires.left
    c.end_induction.ensures.says

pub returns-in-Induction-clause-stands : goal.returns-in-Induction-clause-stands
returns-in-Induction-clause-stands c =
    boxed_stands c.end_induction.result c.args.builder.now c.end_induction.new.builder (Induction c.in-Induction.name)
    (method_of c.args.method.now) c.args.goal.now (option_map (λ x. x.now) c.args.lefts.now.shared)
    c.args.lefts.now.subgoals.now (ap method_of c.in-Induction.is) c.end_induction.ensures.grows

pub end_partition-requires-clause-left : goal.end_partition-requires-clause-left
end_partition-requires-clause-left c =
    let w = c.requires.left in (
      w.0,
      (
        option_map (λ x. x.now) c.args.lefts.now.shared,
        left_by w.0 _ _ Partition c.args.goal.now _ _
            (ap method_of c.in-Partition.is) w.1,
      ),
    )

pub returns-in-Partition-clause-says : goal.returns-in-Partition-clause-says
returns-in-Partition-clause-says c =
    boxed_says c.end_partition.result c.args.builder.now c.end_partition.new.builder Partition
    (method_of c.args.method.now) c.args.goal.now (option_map (λ x. x.now) c.args.lefts.now.shared)
    c.args.lefts.now.subgoals.now (ap method_of c.in-Partition.is) c.requires.left
    c.end_partition.ensures.says

pub returns-in-Partition-clause-stands : goal.returns-in-Partition-clause-stands
returns-in-Partition-clause-stands c =
    boxed_stands c.end_partition.result c.args.builder.now c.end_partition.new.builder Partition
    (method_of c.args.method.now) c.args.goal.now (option_map (λ x. x.now) c.args.lefts.now.shared)
    c.args.lefts.now.subgoals.now (ap method_of c.in-Partition.is) c.end_partition.ensures.grows
