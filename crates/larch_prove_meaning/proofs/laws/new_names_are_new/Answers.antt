use Rattle.larch_prove_meaning.proofs.FreeNames.{free_is_free}
use Rattle.larch_prove_meaning.proofs.laws.new_names_are_new.Goals as goal

pub returns : goal.returns
returns c taken word h = free_is_free taken word h
