use Rattle.std.proofs.Common.{◌≡◌, ◌++◌, map, take}
use Rattle.larch_flat_replacing.specs.Kept.{these}
use Rattle.larch_flat_replacing.proofs.replacements.Replacements.with_operators.Given as goal

-- the operators so far have the name
abbrev pub invariant-loop-operator : goal.invariant-loop-operator
invariant-loop-operator l =
    l.by ≡ these l.fn.self.sorts (l.fn.self.operators ++ map (λ f. (f, l.name)) (take l.operator-index l.operators))
