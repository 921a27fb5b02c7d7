use Rattle.larch_verify_history.proofs.Staying.{past_stays, history_same}
use Rattle.larch_verify_history.proofs.laws.past_stays.Goals as goal

pub returns : goal.returns
returns c = record { stays = past_stays; same = history_same }
