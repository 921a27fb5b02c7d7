use Rattle.larch_prove_meaning.proofs.AddingSorts.{add_over}
use Rattle.larch_prove_meaning.proofs.Applications.{add_applications}
use Rattle.larch_prove_meaning.proofs.laws.adding_keeps_sorts.Goals as goal

pub returns-clause-sorts : goal.returns-clause-sorts
returns-clause-sorts c fs manner e facts b made r f s h = add_over fs manner e facts b made r f s h

pub returns-clause-applications : goal.returns-clause-applications
returns-clause-applications c manner e facts b made r f h = add_applications manner e facts b made r f h
