use Rattle.larch_term.specs.Place.{put}
use Rattle.larch_order.proofs.Computed.{computed, shown}
use Rattle.larch_order.proofs.Context.{put_above}
use Rattle.larch_order.proofs.laws.greater_in_context.Goals as goal

pub returns : goal.returns
returns c ranks t p u v e g = shown ranks (put t p v) t (put_above ranks t p u v e (computed g))
