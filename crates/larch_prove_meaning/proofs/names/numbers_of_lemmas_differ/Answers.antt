use Rattle.larch_prove_meaning.proofs.LemmaNumbers.{lemmas_apart, numbers_apart}
use Rattle.larch_prove_meaning.proofs.names.numbers_of_lemmas_differ.Goals as goal

pub returns : goal.returns
returns c = record { lemmas = lemmas_apart; earlier = numbers_apart }
