use Rattle.std.proofs.Common.{◌+◌, ◌<◌, drop, length, map, sym, ◌∙◌, arith}
use Rattle.larch_base.proofs.Bools.{and_known_left, and_not_left}
use Rattle.larch_verify_pool.proofs.Front.{grows_trans}
use Rattle.larch_verify_history.specs.Past.{equated_in}
use Rattle.larch_verify_history.specs.declared.stated.Equated.{Equated}
use Rattle.larch_verify_box_rules.proofs.Supposed.{left_same, next_met}
use Rattle.larch_verify_box_rules.proofs.showing.supposes_cases.Goals as goal

-- what stands where no hypothesis does
abbrev none : Equated
none = record { left = 0; right = 0 }

pub returns-then-not-supposes-clause-supposes : goal.returns-then-not-supposes-clause-supposes
returns-then-not-supposes-clause-supposes c =
    let k : c.loop-i.met < length c.as_slice-hypotheses.result.now = omega (arith, c.if-met-hypotheses.false) in
    sym (and_not_left c.in_ok-supposes.supposes
    (left_same c.args.pool.now c.args.inductive.now c.args.known.now.number (c.loop-i.i + 1 + 1)
    (drop (c.loop-i.i + 1) c.as_slice-parts.result.now)
    (map (equated_in c.args.pool.now) (drop (c.loop-i.met + 1) c.as_slice-hypotheses.result.now)))
    c.if-not-supposes.true)
    ∙ sym (next_met c.args.pool.now c.loop-i.pool c.constant_in.new.pool c.args.inductive.now c.args.known.now.number
    c.as_slice-parts.result.now c.args.known.now.parts c.as_slice-hypotheses.result.now c.args.known.now.hypotheses
    c.loop-i.i c.loop-i.met c.in_ok-image.image c.index-parts-i.result none c.in_ok-supposes.supposes c.ne.result
    c.loop-i.invariant.grows c.in_ok-image.ensures.grows c.requires.inductive c.requires.known
    c.as_slice-hypotheses.ensures
    c.requires.constants c.as_slice-parts.ensures c.loop-i-test.true k c.index-parts-i.is c.ne.ensures c.if-ne.false
    c.in_ok-image.ensures.tree c.in_ok-supposes.ensures.instance)
    ∙ c.loop-i.invariant.rest
    ∙ (λ j. left_same c.args.pool.now c.args.inductive.now c.args.known.now.number 1 (c.as_slice-parts.ensures j)
    (map (equated_in c.args.pool.now) (c.as_slice-hypotheses.ensures j)))

pub loop-i-preserved : goal.loop-i-preserved
loop-i-preserved c =
    let k : c.loop-i.met < length c.as_slice-hypotheses.result.now = omega (arith, c.if-met-hypotheses.false) in
    record {
      grows = grows_trans c.args.pool.now c.constant_in.new.pool c.is_instance.new.pool
          (grows_trans c.args.pool.now c.loop-i.pool c.constant_in.new.pool c.loop-i.invariant.grows
          c.in_ok-image.ensures.grows)
          c.in_ok-supposes.ensures.grows;
      met = omega (arith, k);
      rest = sym (and_known_left c.in_ok-supposes.supposes
          (left_same c.args.pool.now c.args.inductive.now c.args.known.now.number (c.loop-i.i + 1 + 1)
          (drop (c.loop-i.i + 1) c.as_slice-parts.result.now)
          (map (equated_in c.args.pool.now) (drop (c.loop-i.met + 1) c.as_slice-hypotheses.result.now)))
          c.if-not-supposes.false)
          ∙ sym (next_met c.args.pool.now c.loop-i.pool c.constant_in.new.pool c.args.inductive.now
          c.args.known.now.number
          c.as_slice-parts.result.now c.args.known.now.parts c.as_slice-hypotheses.result.now
          c.args.known.now.hypotheses
          c.loop-i.i c.loop-i.met c.in_ok-image.image c.index-parts-i.result none c.in_ok-supposes.supposes c.ne.result
          c.loop-i.invariant.grows c.in_ok-image.ensures.grows c.requires.inductive c.requires.known
          c.as_slice-hypotheses.ensures
          c.requires.constants c.as_slice-parts.ensures c.loop-i-test.true k c.index-parts-i.is c.ne.ensures
          c.if-ne.false
          c.in_ok-image.ensures.tree c.in_ok-supposes.ensures.instance)
          ∙ c.loop-i.invariant.rest;
    }
