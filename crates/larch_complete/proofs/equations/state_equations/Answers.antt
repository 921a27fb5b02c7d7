use Rattle.std.specs.Prelude.{◌≤◌, length, refl}
use Rattle.std.proofs.Common.{rules}
use Rattle.larch_complete.proofs.Stating.{equations_all, equations_more, stated_at, stated_stay}
use Rattle.larch_complete.proofs.equations.state_equations.Goals as goal
use Rattle.larch_derive.proofs.Growth.{extends_trans}

pub push_stated-requires-clause-stated : goal.push_stated-requires-clause-stated
push_stated-requires-clause-stated c =
    stated_at c.loop-index.builder c.args.statements.now c.loop-index.index _ c.index-statements-index.result
    c.loop-index.invariant.stated c.loop-index-test.true c.index-statements-index.is refl

pub loop-index-preserved : goal.loop-index-preserved
loop-index-preserved c = record {
  sides = equations_more c.args.statements.now c.loop-index.index c.index-statements-index.result
      c.loop-index.equations c.push_stated.new.equations c.loop-index-test.true c.index-statements-index.is
      c.in_ok-push_stated.ensures.sides c.loop-index.invariant.sides;
  said = c.in_ok-push_stated.ensures.said;
  stated = stated_stay _ _ c.args.statements.now c.in_ok-push_stated.ensures.extends c.loop-index.invariant.stated;
  extends = extends_trans _ _ _ c.loop-index.invariant.extends c.in_ok-push_stated.ensures.extends;
}

pub returns-clause-sides : goal.returns-clause-sides
returns-clause-sides c =
    let l : length c.args.statements.now ≤ c.loop-index.index = search rules in
    equations_all c.args.statements.now c.loop-index.index c.loop-index.equations l c.loop-index.invariant.sides
