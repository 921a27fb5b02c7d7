use Rattle.larch_flat_meaning.proofs.Texts.{flat_text}
use Rattle.larch_flat_meaning.proofs.laws.flat_traits_keep_their_texts.Goals as goal

pub returns : goal.returns
returns c = flat_text
