use Rattle.larch_flat_meaning.proofs.Reached.{reached_different, reached_led, reached_one}
use Rattle.larch_flat_meaning.proofs.laws.what_is_reached_is_led_to.Goals as goal

pub returns-clause-led : goal.returns-clause-led
returns-clause-led c = reached_led

pub returns-clause-different : goal.returns-clause-different
returns-clause-different c = reached_different

pub returns-clause-one : goal.returns-clause-one
returns-clause-one c = reached_one
