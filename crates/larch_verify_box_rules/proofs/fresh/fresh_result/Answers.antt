use Rattle.std.proofs.Common.{◌≡◌, true, length, map, Some, sym, ◌∙◌, ap}
use Rattle.std.proofs.lemmas.List.{length-map}
use Rattle.larch_verify_meaning.specs.Events.{operators_of}
use Rattle.larch_verify_meaning.specs.Matching.{has_constants, variable_of}
use Rattle.larch_verify_history.specs.Past.{box_in, equated_in, stated_in}
use Rattle.larch_verify_box_rules.proofs.Boxes.{constants_count}
use Rattle.larch_verify_box_rules.proofs.Freed.{with_others, without_hypotheses, freed_some, no_hypotheses}
use Rattle.larch_verify_box_rules.proofs.fresh.fresh_result.Goals as goal

pub returns-then-not-has_constants-clause-says : goal.returns-then-not-has_constants-clause-says
returns-then-not-has_constants-clause-says c =
    with_others (box_in c.args.pool.now c.args.known.now) (stated_in c.args.pool.now c.args.stated.now)
    (map variable_of c.args.variables.now)
    (sym (c.has_constants.ensures c.args.pool.now
    ∙ ap (has_constants (box_in c.args.pool.now c.args.known.now)) (c.deref.ensures.value ∙ c.in_ok-sorts.ensures))
    ∙ c.if-not-has_constants.true)

pub returns-clause-says : goal.returns-clause-says
returns-clause-says c =
    let h : has_constants (box_in c.args.pool.now c.args.known.now)
    (map (λ v. v.sort) (map variable_of c.args.variables.now)) ≡ true =
    sym (c.has_constants.ensures c.args.pool.now
    ∙ ap (has_constants (box_in c.args.pool.now c.args.known.now)) (c.deref.ensures.value ∙ c.in_ok-sorts.ensures))
    ∙ c.if-not-has_constants.false in
    let n : length c.args.known.now.parts ≡ length c.args.variables.now =
    constants_count (box_in c.args.pool.now c.args.known.now)
    (map (λ v. v.sort) (map variable_of c.args.variables.now)) h
    ∙ length-map (map variable_of c.args.variables.now) (λ v. v.sort) ∙ length-map c.args.variables.now variable_of in
    without_hypotheses (box_in c.args.pool.now c.args.known.now) (stated_in c.args.pool.now c.args.stated.now)
    (map variable_of c.args.variables.now)
    (Some (equated_in c.freed_sides.new.pool c.in_ok-made.made))
    (no_hypotheses (equated_in c.args.pool.now) c.args.known.now.hypotheses c.as_slice.result.now c.is_empty.result
    c.is_empty.ensures
    c.if-not-is_empty.false c.as_slice.ensures) h
    (freed_some (operators_of (box_in c.args.pool.now c.args.known.now)) (map variable_of c.args.variables.now)
    (stated_in c.args.pool.now c.args.stated.now)
    (equated_in c.args.pool.now c.in-Some.sides) (Some (equated_in c.freed_sides.new.pool c.in_ok-made.made))
    (c.in-Some.ensures.says c.args.pool.now) (c.in_ok-made.ensures.says c.args.known.now.parts n))
