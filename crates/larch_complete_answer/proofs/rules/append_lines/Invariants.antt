use Rattle.std.proofs.Common.{◌≡◌, ◌+◌, ◌++◌, drop, map}
use Rattle.larch_complete_answer.specs.Told.{rule_lines}
use Rattle.larch_complete_answer.proofs.rules.append_lines.Given as goal
use Rattle.larch_complete_rounds.specs.Certified.{sides_behind}

abbrev pub invariant-loop-index : goal.invariant-loop-index
invariant-loop-index l =
    l.text ++ rule_lines (l.index + 1) (map sides_behind (drop l.index l.rules))
    ≡ l.initial.text ++ rule_lines 1 (map sides_behind l.rules)
