use Rattle.std.proofs.Common.{◌≡◌, [], drop}
use Rattle.larch_base_meaning.specs.Steps.{all_taken}
use Rattle.larch_duties_meaning.specs.Conversions.{take_exempted}
use Rattle.larch_duties.proofs.conversion.exempted_among.Given as goal

-- the terms so far, with those that are left, are all
abbrev pub invariant-loop-raw : goal.invariant-loop-raw
invariant-loop-raw l =
    all_taken (take_exempted l.signature l.among l.scope) (drop l.raw-index l.terms) l.exempted
    ≡ all_taken (take_exempted l.signature l.among l.scope) l.terms []
