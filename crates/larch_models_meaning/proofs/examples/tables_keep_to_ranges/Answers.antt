use Rattle.std.proofs.Common.{◌≤◌, [], refl, arith}
use Rattle.larch_calculus.specs.Example.{nought}
use Rattle.larch_models_meaning.proofs.examples.tables_keep_to_ranges.Goals as goal

pub returns : goal.returns
returns c k =
    let large : 2 ≤ 1 = k.interpretation.within nought (0, omega arith, refl) [] tt in
    absurd (omega (arith, large))
