use Rattle.larch_prove_meaning.proofs.OpeningNames.{begun_named}
use Rattle.larch_prove_meaning.proofs.StepNames.{block_named, step_named}
use Rattle.larch_prove_meaning.proofs.names.names_of_facts_differ.Goals as goal

pub returns-clause-opened : goal.returns-clause-opened
returns-clause-opened c duty limit preamble p d k = begun_named duty limit preamble p d k

pub returns-clause-stepped : goal.returns-clause-stepped
returns-clause-stepped c command p q h k = step_named command p q h k

pub returns-clause-replayed : goal.returns-clause-replayed
returns-clause-replayed c block p q h k = block_named block p q h k
