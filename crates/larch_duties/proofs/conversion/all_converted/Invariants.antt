use Rattle.std.proofs.Common.{◌≡◌, [], drop}
use Rattle.larch_base_meaning.specs.Steps.{all_taken}
use Rattle.larch_duties_meaning.specs.Conversions.{take_converted}
use Rattle.larch_duties.proofs.conversion.all_converted.Given as goal

-- the operators so far, with those that the references that are left name, are all
abbrev pub invariant-loop-reference : goal.invariant-loop-reference
invariant-loop-reference l =
    all_taken (take_converted l.own) (drop l.reference-index l.references) l.converted
    ≡ all_taken (take_converted l.own) l.references []
