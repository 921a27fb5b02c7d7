use Rattle.std.proofs.Common.{arith, sym, ◌∙◌}
use Rattle.larch_methods.proofs.Numbered.{not_among, numbered_at, others_more}
use Rattle.larch_methods.proofs.numbers.number_of.Goals as goal

pub loop-candidate-preserved : goal.loop-candidate-preserved
loop-candidate-preserved c =
    let k = c.loop-candidate.invariant.0 in (
      omega (arith, k),
      others_more c.args.own.now c.args.operator.now c.candidate-item.result c.loop-candidate.candidate-index
          c.loop-candidate-test.true c.candidate-item.is
          (sym c.eq.ensures ∙ c.if-eq.false) c.loop-candidate.invariant.1,
    )

pub returns-then-eq-clause-some : goal.returns-then-eq-clause-some
returns-then-eq-clause-some c =
    numbered_at c.args.own.now c.loop-candidate.number c.loop-candidate.candidate-index c.candidate-item.result
    c.args.operator.now c.loop-candidate.invariant.0 c.loop-candidate-test.true c.candidate-item.is
    (sym c.eq.ensures ∙ c.if-eq.true)

pub returns-clause-none : goal.returns-clause-none
returns-clause-none c =
    not_among c.args.own.now c.args.operator.now c.loop-candidate.candidate-index
    (omega (arith, c.loop-candidate-test.false)) c.loop-candidate.invariant.1
