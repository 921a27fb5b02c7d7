use Rattle.std.proofs.Common.{◌≡◌, ◌++◌, take, map}
use Rattle.larch_term.specs.BuiltIn.{built_in}
use Rattle.larch_sorts_known.proofs.built_ins.push_at_each.Given as goal

-- the operators at the sorts so far
abbrev pub invariant-loop-sort : goal.invariant-loop-sort
invariant-loop-sort l = l.operators ≡ l.initial.operators ++ map (built_in l.kind) (take l.sort-index l.sorts)
