use Rattle.std.proofs.Common.{◌≡◌, drop}
use Rattle.larch_duties.specs.Finding.{converted_duty}
use Rattle.larch_duties.proofs.finding.converted_duty.Given as goal

-- what is left is answered as all clauses are
abbrev pub invariant-loop-conversion : goal.invariant-loop-conversion
invariant-loop-conversion l =
    converted_duty l.flat l.number (drop l.conversion-index l.conversions) l.text
    ≡ converted_duty l.flat 1 l.conversions l.text
