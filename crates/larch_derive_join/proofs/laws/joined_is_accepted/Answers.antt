use Rattle.larch_derive_join.proofs.Accepted.{joined_accepted, joined_ends}
use Rattle.larch_derive_join.proofs.Lengths.{joined_length}
use Rattle.larch_derive_join.proofs.Writable.{joined_writable}
use Rattle.larch_derive_join.proofs.laws.joined_is_accepted.Goals as goal

pub returns : goal.returns
returns c =
    record { accepted = joined_accepted; ends = joined_ends; writable = joined_writable; count = joined_length }
