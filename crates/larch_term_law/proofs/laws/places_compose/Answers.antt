use Rattle.larch_term_law.proofs.Places.{at-append, at_put, put_same}
use Rattle.larch_term_law.proofs.laws.places_compose.Goals as goal

pub returns : goal.returns
returns c = record { front = at-append; put = at_put; same = put_same }
