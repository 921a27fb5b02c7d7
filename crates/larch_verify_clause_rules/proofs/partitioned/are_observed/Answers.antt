use Rattle.std.proofs.Common.{◌+◌, ◌<◌, ◌&&◌, length, map, drop, sym, ◌∙◌, ap, arith}
use Rattle.larch_verify_meaning.specs.Matching.{same_statements}
use Rattle.larch_verify_pool.proofs.Front.{grows_trans}
use Rattle.larch_verify_history.specs.Past.{equated_in}
use Rattle.larch_verify_clause_rules.specs.Observers.{observation_of}
use Rattle.larch_verify_clause_rules.proofs.Comparing.{shown_at, shown_later, shown_next}
use Rattle.larch_verify_clause_rules.proofs.partitioned.are_observed.Goals as goal

pub returns-then-not-is_observed-clause-says : goal.returns-then-not-is_observed-clause-says
returns-then-not-is_observed-clause-says c =
    let lh : c.loop-i.i < length c.args.hypotheses.now =
    omega (arith, c.if-hypotheses-observers.false, c.loop-i-test.true) in
    sym (c.loop-i.invariant.left
    ∙ shown_next c.args.pool.now c.args.sides c.args.hypotheses.now c.args.observers.now c.loop-i.i _
    c.index-observers-i.result c.in_ok-is_observed.is_observed lh c.loop-i-test.true c.index-observers-i.is
    (shown_later c.args.pool.now c.loop-i.pool _ c.args.sides
    (observation_of c.index-observers-i.result) c.in_ok-is_observed.is_observed c.loop-i.invariant.grows
    (c.requires.hypotheses c.loop-i.i _ lh) c.requires.sides c.in_ok-is_observed.ensures.says)
    ∙ ap (λ b. b && same_statements (map (equated_in c.args.pool.now) (drop (c.loop-i.i + 1) c.args.hypotheses.now))
    (map (shown_at c.args.pool.now c.args.sides) (map observation_of (drop (c.loop-i.i + 1) c.args.observers.now))))
    c.if-not-is_observed.true)

pub loop-i-preserved : goal.loop-i-preserved
loop-i-preserved c =
    let lh : c.loop-i.i < length c.args.hypotheses.now =
    omega (arith, c.if-hypotheses-observers.false, c.loop-i-test.true) in
    record {
      grows =
          grows_trans c.args.pool.now c.loop-i.pool c.is_observed.new.pool c.loop-i.invariant.grows
          c.in_ok-is_observed.ensures.grows;
      left =
          c.loop-i.invariant.left
          ∙ shown_next c.args.pool.now c.args.sides c.args.hypotheses.now c.args.observers.now c.loop-i.i _
          c.index-observers-i.result c.in_ok-is_observed.is_observed lh c.loop-i-test.true c.index-observers-i.is
          (shown_later c.args.pool.now c.loop-i.pool _ c.args.sides
          (observation_of c.index-observers-i.result) c.in_ok-is_observed.is_observed c.loop-i.invariant.grows
          (c.requires.hypotheses c.loop-i.i _ lh) c.requires.sides c.in_ok-is_observed.ensures.says)
          ∙ ap (λ b. b && same_statements
          (map (equated_in c.args.pool.now) (drop (c.loop-i.i + 1) c.args.hypotheses.now))
          (map (shown_at c.args.pool.now c.args.sides)
          (map observation_of (drop (c.loop-i.i + 1) c.args.observers.now)))) c.if-not-is_observed.false;
    }
