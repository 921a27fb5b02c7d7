use Rattle.larch_verify_law.proofs.Carried.{put_in, named}
use Rattle.larch_verify_law.proofs.laws.lines_come_and_go.Goals as goal

pub returns : goal.returns
returns c = record { put_in = put_in; named = named }
