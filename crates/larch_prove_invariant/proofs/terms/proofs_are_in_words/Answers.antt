use Rattle.larch_prove_invariant.proofs.InWords.{held_worded, proof_worded}
use Rattle.larch_prove_invariant.proofs.PlanWords.{formula_worded}
use Rattle.larch_prove_invariant.proofs.terms.proofs_are_in_words.Goals as goal

pub returns : goal.returns
returns c = record { levels = held_worded; proof = proof_worded; formula = formula_worded }
