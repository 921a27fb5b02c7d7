use Rattle.larch_prove_meaning.proofs.Redone.{alike_Decides, duty_Decides, lemma_Decides, theory_Decides}
use Rattle.larch_prove_meaning.proofs.laws.what_is_the_same_is_equal.Goals as goal

pub returns-clause-theories : goal.returns-clause-theories
returns-clause-theories c t u = theory_Decides t u

pub returns-clause-lemmas : goal.returns-clause-lemmas
returns-clause-lemmas c l m = lemma_Decides l m

pub returns-clause-duties : goal.returns-clause-duties
returns-clause-duties c d e = duty_Decides d e

pub returns-clause-beginnings : goal.returns-clause-beginnings
returns-clause-beginnings c r q = alike_Decides r q
