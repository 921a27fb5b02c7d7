use Rattle.larch_prove_meaning.proofs.OpeningSorts.{begun_new, block_new, step_new}
use Rattle.larch_prove_meaning.proofs.laws.constants_are_new.Goals as goal

pub returns-clause-opened : goal.returns-clause-opened
returns-clause-opened c duty limit preamble p w k = begun_new duty limit preamble p w k

pub returns-clause-stepped : goal.returns-clause-stepped
returns-clause-stepped c command p q h n k = step_new command p q h n k

pub returns-clause-replayed : goal.returns-clause-replayed
returns-clause-replayed c block p q h n k = block_new block p q h n k
