use Rattle.larch_session_replay.proofs.Certified.{replays_certified}
use Rattle.larch_session_replay.proofs.laws.what_is_replayed_is_certified.Goals as goal

pub returns : goal.returns
returns c = replays_certified
