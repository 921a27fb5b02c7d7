use Rattle.larch_term_law.proofs.Agreement.{substituted_occurrences, closed_by_images, closed_stays}
use Rattle.larch_term_law.proofs.laws.substituted_occurrences.Goals as goal

pub returns : goal.returns
returns c = record { images = substituted_occurrences; closed = closed_by_images; stays = closed_stays }
