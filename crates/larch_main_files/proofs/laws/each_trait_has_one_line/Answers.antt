use Rattle.larch_traits.specs.Reading.{read_files}
use Rattle.larch_main_files.proofs.OneLine.{one_of_each}
use Rattle.larch_main_files.proofs.laws.each_trait_has_one_line.Goals as goal

pub returns : goal.returns
returns c files = one_of_each (read_files files) (c.each_flat_trait_is_told.ensures files) (read_files files)
