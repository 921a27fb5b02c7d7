use Rattle.std.proofs.Common.{length, arith}
use Rattle.larch_duties_meaning.proofs.FlatMeaningDeepEnough.{deep_enough}
use Rattle.larch_flat.specs.FlatSourcesSources.{files_in, names_in}
use Rattle.larch_flat.proofs.FlatSourcesTables.{among, names_length}
use Rattle.larch_traits.specs.Reading.{read_files}
use Rattle.larch_traits.proofs.laws.each_flat_trait_is_told.Goals as goal

pub returns : goal.returns
returns c files stem =
    let sources = read_files files in
    let l = names_length sources in
    deep_enough (files_in sources) (names_in sources) (among sources) (length sources) (omega (arith, l)) stem
