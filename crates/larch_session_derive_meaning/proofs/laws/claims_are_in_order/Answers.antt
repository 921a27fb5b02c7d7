use Rattle.larch_session_derive_meaning.proofs.Order.{in_order}
use Rattle.larch_session_derive_meaning.proofs.laws.claims_are_in_order.Goals as goal
use Rattle.larch_session_law.specs.TraitsReading.{read_files}

pub returns : goal.returns
returns c = λ files stem claims e. in_order (read_files files) stem claims e
