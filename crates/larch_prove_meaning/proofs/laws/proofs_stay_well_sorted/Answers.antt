use Rattle.larch_prove_meaning.proofs.OpeningSorts.{begun_sorted, block_sorted, step_sorted}
use Rattle.larch_prove_meaning.proofs.laws.proofs_stay_well_sorted.Goals as goal

pub returns-clause-opened : goal.returns-clause-opened
returns-clause-opened c duty limit preamble p w k = begun_sorted duty limit preamble p w k

pub returns-clause-stepped : goal.returns-clause-stepped
returns-clause-stepped c command p q h k = step_sorted command p q h k

pub returns-clause-replayed : goal.returns-clause-replayed
returns-clause-replayed c block p q h k = block_sorted block p q h k
