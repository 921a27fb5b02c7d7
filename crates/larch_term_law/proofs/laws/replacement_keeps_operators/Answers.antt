use Rattle.larch_term_law.proofs.Places.{at_over, put_over}
use Rattle.larch_term_law.proofs.laws.replacement_keeps_operators.Goals as goal

pub returns : goal.returns
returns c = record { subterm = at_over; whole = put_over }
