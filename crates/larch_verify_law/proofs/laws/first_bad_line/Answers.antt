use Rattle.larch_verify_law.proofs.Runs.{first_bad_is, none_bad_runs, runs_none_bad}
use Rattle.larch_verify_law.proofs.laws.first_bad_line.Goals as goal

pub returns : goal.returns
returns c = record { number = first_bad_is; none = none_bad_runs; run = runs_none_bad }
