use Rattle.larch_traits.proofs.EachFile.{read_by_itself}
use Rattle.larch_traits.proofs.laws.each_file_is_read_by_itself.Goals as goal

pub returns : goal.returns
returns c = read_by_itself
