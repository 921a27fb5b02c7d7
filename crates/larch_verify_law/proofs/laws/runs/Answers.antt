use Rattle.larch_verify_law.proofs.Runs.{run_append, run_parts, run_count}
use Rattle.larch_verify_law.proofs.laws.runs.Goals as goal

pub returns : goal.returns
returns c = record { append = run_append; parts = run_parts; count = run_count }
