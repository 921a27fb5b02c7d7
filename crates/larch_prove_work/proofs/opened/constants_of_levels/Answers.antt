-- Those of the levels below, and then those of the current one.
use Rattle.std.specs.declared.alloc.Global.{Global}
use Rattle.std.specs.declared.rc.Rc.{Rc}
use Rattle.std.proofs.Common.{◌++◌, List, ap, ap₂, map, reverse, ◌∙◌}
use Rattle.larch_prove_settling.specs.ProveLevelsLevelLevel.{Level}
use Rattle.larch_prove_work.proofs.opened.constants_of_levels.Goals as goal
use Rattle.larch_prove_work.specs.Opened.{boxes_in_level, constants_in_boxes, constants_in_levels}
use Rattle.larch_term.specs.Operator.{PlainOperator}

pub returns : goal.returns
returns c =
    c.in_ok-add_level.ensures
    ∙ ap (λ (fs : List PlainOperator). fs ++ constants_in_boxes (boxes_in_level c.args.draft.now.current))
    (c.in_ok-add_levels.ensures
    ∙ ap₂ (λ (fs : List PlainOperator) (ls : List (Rc Level Global)). fs ++ constants_in_levels (reverse (map (λ
    l. l.value) ls))) c.new-found.ensures c.deref.ensures.value)
