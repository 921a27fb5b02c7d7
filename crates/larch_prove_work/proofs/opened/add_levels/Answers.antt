-- Level by level.
use Rattle.std.proofs.Common.{◌++◌, ap, arith, ◌∙◌}
use Rattle.larch_prove_settling.specs.ProveLevelsLevelLevel.{Level}
use Rattle.larch_prove_work.proofs.Constants.{level_added, levels_added}
use Rattle.larch_prove_work.proofs.opened.add_levels.Goals as goal
use Rattle.larch_prove_work.specs.Opened.{boxes_in_level, constants_in_boxes}

pub loop-level-preserved : goal.loop-level-preserved
loop-level-preserved c =
    level_added c.args.levels.now c.loop-level.level-index c.level-item.result c.args.found.now c.loop-level.found
    c.add_level.new.found c.loop-level-test.true c.level-item.is c.loop-level.invariant
    (c.in_ok-add_level.ensures
    ∙ ap (λ (l : Level). c.loop-level.found ++ constants_in_boxes (boxes_in_level l)) c.deref.ensures)

pub returns : goal.returns
returns c =
    levels_added c.args.levels.now c.loop-level.level-index _ _ (omega (arith, c.loop-level-test.false))
    c.loop-level.invariant
