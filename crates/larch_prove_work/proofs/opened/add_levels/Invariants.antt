use Rattle.std.proofs.Common.{◌≡◌, ◌++◌, map, reverse, take}
use Rattle.larch_prove_work.proofs.opened.add_levels.Given as goal
use Rattle.larch_prove_work.specs.Opened.{constants_in_levels}

-- the constants of the levels so far
abbrev pub invariant-loop-level : goal.invariant-loop-level
invariant-loop-level l =
    l.found
    ≡ l.initial.found ++ constants_in_levels (reverse (map (λ level. level.value) (take l.level-index l.levels)))
