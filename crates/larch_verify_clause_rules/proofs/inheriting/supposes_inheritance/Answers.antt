use Rattle.std.proofs.Common.{◌+◌, ◌<◌, ◌&&◌, length, map, drop, sym, ◌∙◌, ap, arith}
use Rattle.larch_term.specs.Truth.{truth}
use Rattle.larch_calculus.specs.Generation.{generation_hypotheses}
use Rattle.larch_verify_meaning.specs.Matching.{same_statements}
use Rattle.larch_verify_pool.specs.Pooled.{operator_in}
use Rattle.larch_verify_pool.proofs.Front.{grows_trans}
use Rattle.larch_verify_history.specs.Past.{equated_in}
use Rattle.larch_verify_parts.proofs.Numbers.{has_later}
use Rattle.larch_verify_clause_rules.specs.Operators.{operators_in}
use Rattle.larch_verify_clause_rules.proofs.Generators.{supposed_at}
use Rattle.larch_verify_clause_rules.proofs.inheriting.supposes_inheritance.Goals as goal

pub returns-then-not-same_equated-clause-says : goal.returns-then-not-same_equated-clause-says
returns-then-not-same_equated-clause-says c =
    let lh : c.loop-i.i < length c.args.hypotheses.now =
    omega (arith, c.if-hypotheses-generators.false, c.loop-i-test.true) in
    sym (c.loop-i.invariant.left
    ∙ supposed_at c.args.pool.now c.loop-i.pool c.formula_in.new.pool c.args.predicate c.args.sort.now
    c.args.hypotheses.now c.args.generators.now c.loop-i.i _ c.index-generators-i.result
    c.in_ok-formula.formula c.in_ok-truth.truth c.same_equated.result c.loop-i.invariant.grows
    c.in_ok-formula.ensures.grows c.requires.predicate c.requires.hypotheses lh c.loop-i-test.true
    c.index-generators-i.is c.in_ok-formula.ensures.tree c.loop-i.invariant.truth c.same_equated.ensures
    ∙ ap (λ b. b && same_statements (map (equated_in c.args.pool.now) (drop (c.loop-i.i + 1) c.args.hypotheses.now))
    (generation_hypotheses (operator_in c.args.pool.now.operators c.args.predicate) c.args.sort.now
    (operators_in (drop (c.loop-i.i + 1) c.args.generators.now)))) c.if-not-same_equated.true)

pub loop-i-preserved : goal.loop-i-preserved
loop-i-preserved c =
    let lh : c.loop-i.i < length c.args.hypotheses.now =
    omega (arith, c.if-hypotheses-generators.false, c.loop-i-test.true) in
    record {
      grows =
          grows_trans c.args.pool.now c.loop-i.pool c.formula_in.new.pool c.loop-i.invariant.grows
          c.in_ok-formula.ensures.grows;
      truth =
          has_later c.loop-i.pool c.formula_in.new.pool c.in_ok-truth.truth truth c.in_ok-formula.ensures.grows
          c.loop-i.invariant.truth;
      left =
          c.loop-i.invariant.left
          ∙ supposed_at c.args.pool.now c.loop-i.pool c.formula_in.new.pool c.args.predicate c.args.sort.now
          c.args.hypotheses.now c.args.generators.now c.loop-i.i _ c.index-generators-i.result
          c.in_ok-formula.formula c.in_ok-truth.truth c.same_equated.result c.loop-i.invariant.grows
          c.in_ok-formula.ensures.grows c.requires.predicate c.requires.hypotheses lh c.loop-i-test.true
          c.index-generators-i.is c.in_ok-formula.ensures.tree c.loop-i.invariant.truth c.same_equated.ensures
          ∙ ap (λ b. b && same_statements
          (map (equated_in c.args.pool.now) (drop (c.loop-i.i + 1) c.args.hypotheses.now))
          (generation_hypotheses (operator_in c.args.pool.now.operators c.args.predicate) c.args.sort.now
          (operators_in (drop (c.loop-i.i + 1) c.args.generators.now)))) c.if-not-same_equated.false;
    }
