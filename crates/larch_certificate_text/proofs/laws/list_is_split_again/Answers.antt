use Rattle.larch_certificate_text.proofs.ListLaws.{split_joined}
use Rattle.larch_certificate_text.proofs.laws.list_is_split_again.Goals as goal

pub returns : goal.returns
returns c = split_joined
