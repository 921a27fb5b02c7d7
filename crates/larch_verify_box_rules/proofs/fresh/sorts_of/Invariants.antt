use Rattle.std.proofs.Common.{◌≡◌, map, take}
use Rattle.larch_verify_meaning.specs.Matching.{variable_of}
use Rattle.larch_verify_box_rules.proofs.fresh.sorts_of.Given as goal

-- the sorts so far
abbrev pub invariant-loop-variable : goal.invariant-loop-variable
invariant-loop-variable l = l.sorts.items ≡ map (λ v. v.sort) (map variable_of (take l.variable-index l.variables))
