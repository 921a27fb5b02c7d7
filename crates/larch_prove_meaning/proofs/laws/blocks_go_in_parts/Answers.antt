use Rattle.larch_prove_meaning.proofs.Blocks.{stepped_in_parts}
use Rattle.larch_prove_meaning.proofs.laws.blocks_go_in_parts.Goals as goal

pub returns : goal.returns
returns c cs ds p = stepped_in_parts cs ds p
