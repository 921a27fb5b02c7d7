use Rattle.larch_term_law.proofs.Occurring.{stands_where_it_occurs, occurs_where_it_stands, occurs_in_subterm}
use Rattle.larch_term_law.proofs.laws.occurrences_have_places.Goals as goal

pub returns : goal.returns
returns c = record { place = stands_where_it_occurs; occurs = occurs_where_it_stands; subterm = occurs_in_subterm }
