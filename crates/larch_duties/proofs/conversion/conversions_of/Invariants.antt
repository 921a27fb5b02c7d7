use Rattle.std.proofs.Common.{◌≡◌, drop}
use Rattle.larch_base_meaning.specs.Steps.{all_taken, each, one_behind}
use Rattle.larch_duties_meaning.specs.Conversions.{conversion_of}
use Rattle.larch_duties.proofs.conversion.conversions_of.Given as goal

-- the clauses so far, with those that are left, are all
abbrev pub invariant-loop-raw : goal.invariant-loop-raw
invariant-loop-raw l =
    all_taken (λ raw. one_behind (conversion_of l.signature raw)) (drop l.raw-index l.raws) l.conversions
    ≡ each (conversion_of l.signature) l.raws
