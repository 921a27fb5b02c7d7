use Rattle.larch_session_law.proofs.Begun.{replayed_has}
use Rattle.larch_session_law.proofs.laws.what_is_begun_has_its_lemmas.Goals as goal

pub returns-clause-theory : goal.returns-clause-theory
returns-clause-theory c = λ duty limit preamble block p w k. (replayed_has duty limit preamble block p w k).0

pub returns-clause-lemmas : goal.returns-clause-lemmas
returns-clause-lemmas c = λ duty limit preamble block p w k. (replayed_has duty limit preamble block p w k).1
