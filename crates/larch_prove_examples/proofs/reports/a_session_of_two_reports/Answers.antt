use Rattle.std.specs.Prelude.{refl}
use Rattle.larch_prove_meaning.specs.Computing.{replaying}
use Rattle.larch_prove_examples.proofs.reports.a_session_of_two_reports.Goals as goal

pub returns-clause-first : goal.returns-clause-first
unfolding replaying
returns-clause-first c = refl

pub returns-clause-second : goal.returns-clause-second
unfolding replaying
returns-clause-second c = refl
