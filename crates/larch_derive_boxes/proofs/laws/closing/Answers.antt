use Rattle.larch_derive_boxes.proofs.Closing.{closes_result, closes_grows, grown_result}
use Rattle.larch_derive_boxes.proofs.laws.closing.Goals as goal

pub returns : goal.returns
returns c = record { result = closes_result; grows = closes_grows; stays = grown_result }
