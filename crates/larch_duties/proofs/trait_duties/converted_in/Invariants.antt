use Rattle.std.proofs.Common.{◌≡◌, ◌-◌, length, min, sum_by, take}
use Rattle.std.specs.Prelude.{◌^◌}
use Rattle.larch_duties.proofs.trait_duties.converted_in.Given as goal

-- the operators of the clauses so far are counted
abbrev pub invariant-loop-conversion : goal.invariant-loop-conversion
invariant-loop-conversion l =
    l.count ≡ min (sum_by (λ c. length c.converted) (take l.conversion-index l.conversions)) (2 ^ 64 - 1)
