use Rattle.larch_prove_meaning.proofs.StepScopes.{begun_words, block_words, step_words}
use Rattle.larch_prove_meaning.proofs.words.scopes_stay_in_words.Goals as goal

pub returns-clause-opened : goal.returns-clause-opened
returns-clause-opened c duty limit preamble p w ws k = begun_words duty limit preamble p w ws k

pub returns-clause-stepped : goal.returns-clause-stepped
returns-clause-stepped c command p q w h k = step_words command p q w k h

pub returns-clause-replayed : goal.returns-clause-replayed
returns-clause-replayed c block p q w h k = block_words block p q w k h
