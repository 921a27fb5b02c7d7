use Rattle.larch_complete.proofs.Stating.{equation_more, no_sides}
use Rattle.larch_complete.proofs.equations.push_stated.Goals as goal
use Rattle.larch_complete_pairs.proofs.Waiting.{all_said}
use Rattle.larch_derive.proofs.Growth.{extends_refl}

pub returns-in_default : goal.returns-in_default
returns-in_default c = record {
  sides = no_sides c.args.equations.now c.args.statement.now c.in_default.not-Equation;
  said = c.requires.said;
  extends = extends_refl _;
}

pub returns-clause-sides : goal.returns-clause-sides
returns-clause-sides c =
    equation_more c.args.equations.now c.push.new.self c.in_ok-equation.equation c.args.statement.now _ _
    c.in-Equation.is c.in_ok-equation.ensures.left c.in_ok-equation.ensures.right c.in_ok-push.ensures.ok

pub returns-clause-said : goal.returns-clause-said
returns-clause-said c =
    all_said _ _ c.args.equations.now c.push.new.self c.in_ok-equation.equation c.in_ok-equation.ensures.extends
    c.requires.said c.in_ok-equation.ensures.says c.in_ok-push.ensures.ok
