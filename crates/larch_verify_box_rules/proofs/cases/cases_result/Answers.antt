use Rattle.std.proofs.Common.{◌≡◌, None, Some, ◌∙◌, ap, map}
use Rattle.larch_verify_meaning.specs.BoxRules.{only_left_side}
use Rattle.larch_verify_pool.specs.Pooled.{tree_in}
use Rattle.larch_verify_history.specs.Past.{box_in, equated_in, stated_in}
use Rattle.larch_verify_history.proofs.Staying.{equated_same}
use Rattle.larch_verify_box_rules.proofs.CaseSplits.{by_formula, results_differ, both_cases}
use Rattle.larch_verify_box_rules.proofs.cases.cases_result.Goals as goal

pub returns-then-not-same_stated-clause-says : goal.returns-then-not-same_stated-clause-says
returns-then-not-same_stated-clause-says c =
    let f : Some (tree_in c.args.pool.now.trees c.in-Some.formula)
    ≡ only_left_side (map (equated_in c.args.pool.now) c.args.one.now.hypotheses) =
    c.in-Some.ensures.left c.args.pool.now
    ∙ ap (λ hs. only_left_side (map (equated_in c.args.pool.now) hs)) c.as_slice.ensures in
    by_formula (box_in c.args.pool.now c.args.one.now, stated_in c.args.pool.now c.args.shown.now)
    (box_in c.args.pool.now c.args.other.now, stated_in c.args.pool.now c.args.other_shown.now)
    (tree_in c.args.pool.now.trees c.in-Some.formula) None f
    (results_differ (box_in c.args.pool.now c.args.one.now, stated_in c.args.pool.now c.args.shown.now)
    (box_in c.args.pool.now c.args.other.now, stated_in c.args.pool.now c.args.other_shown.now)
    (tree_in c.args.pool.now.trees c.in-Some.formula) c.same_stated.result c.same_stated.ensures
    c.if-not-same_stated.true)

pub returns-clause-says : goal.returns-clause-says
returns-clause-says c =
    let f : Some (tree_in c.args.pool.now.trees c.in-Some.formula)
    ≡ only_left_side (map (equated_in c.args.pool.now) c.args.one.now.hypotheses) =
    c.in-Some.ensures.left c.args.pool.now
    ∙ ap (λ hs. only_left_side (map (equated_in c.args.pool.now) hs)) c.as_slice.ensures in
    by_formula (box_in c.args.pool.now c.args.one.now, stated_in c.args.pool.now c.args.shown.now)
    (box_in c.args.pool.now c.args.other.now, stated_in c.args.pool.now c.args.other_shown.now)
    (tree_in c.args.pool.now.trees c.in-Some.formula)
    (Some (equated_in c.are_cases.new.pool c.in-Some-sides_of.sides)) f
    (both_cases (box_in c.args.pool.now c.args.one.now, stated_in c.args.pool.now c.args.shown.now)
    (box_in c.args.pool.now c.args.other.now, stated_in c.args.pool.now c.args.other_shown.now)
    (tree_in c.args.pool.now.trees c.in-Some.formula) c.in_ok-are_cases.are_cases c.same_stated.result
    c.is_ground.result
    (Some (equated_in c.are_cases.new.pool c.in-Some-sides_of.sides))
    c.in_ok-are_cases.ensures.cases c.if-not-are_cases.false c.same_stated.ensures c.if-not-same_stated.false
    c.is_ground.ensures c.if-not-is_ground.false
    (ap Some (equated_same c.args.pool.now c.are_cases.new.pool c.in-Some-sides_of.sides c.in_ok-are_cases.ensures.grows
    (c.in-Some-sides_of.ensures.within c.args.pool.now c.requires.shown))
    ∙ c.in-Some-sides_of.ensures.says c.args.pool.now))
