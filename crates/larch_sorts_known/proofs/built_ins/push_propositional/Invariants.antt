use Rattle.std.proofs.Common.{◌≡◌, ◌++◌, take, map}
use Rattle.larch_term.specs.BuiltIn.{built_in, bool_sort}
use Rattle.larch_sorts_known.specs.BuiltIns.{propositional}
use Rattle.larch_sorts_known.proofs.built_ins.push_propositional.Given as goal

-- the operators so far
abbrev pub invariant-loop-built_in : goal.invariant-loop-built_in
invariant-loop-built_in l =
    l.operators ≡ l.initial.operators ++ map (λ b. built_in b bool_sort) (take l.built_in-index propositional)
