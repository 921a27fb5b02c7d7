use Rattle.larch_verify_law.proofs.Carried.{judge_moved, step_moved, run_moved}
use Rattle.larch_verify_law.proofs.laws.moved_lines.Goals as goal

pub returns : goal.returns
returns c = record { says = judge_moved; step = step_moved; run = run_moved }
