use Rattle.larch_script_commands.proofs.Decided.{kind_Decides, kinds_Decide}
use Rattle.larch_prove_meaning.proofs.Positions.{begun_alike, prepared_alike, step_alike, stepped_alike}
use Rattle.larch_prove_meaning.proofs.laws.equal_commands_do_the_same.Goals as goal

pub returns-clause-step : goal.returns-clause-step
returns-clause-step k c d p e = step_alike c d p ((kind_Decides c d).0 e)

pub returns-clause-preamble : goal.returns-clause-preamble
returns-clause-preamble c k cs ds p e = prepared_alike k cs ds p ((kinds_Decide cs ds).0 e)

pub returns-clause-block : goal.returns-clause-block
returns-clause-block c cs ds p e = stepped_alike cs ds p ((kinds_Decide cs ds).0 e)

pub returns-clause-opening : goal.returns-clause-opening
returns-clause-opening c r q limit e = begun_alike r q limit e
