use Rattle.std.proofs.Common.{[], rules}
use Rattle.larch_prove.specs.Prepared.{duty_of}
use Rattle.larch_prove_meaning.specs.Replays.{begun_with}
use Rattle.larch_prove_meaning.specs.Scripts.{commands_of}
use Rattle.larch_session_trail.proofs.trail.Trail.begin.Goals as goal

pub returns-clause-some : goal.returns-clause-some
returns-clause-some g c = (
  c.args.duty.now.statement.now,
  (
    begun_with (duty_of c.args.duty.now) c.args.limit (commands_of c.args.preamble.now),
    ([], search rules),
  ),
)
