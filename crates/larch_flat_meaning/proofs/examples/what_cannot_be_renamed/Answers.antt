use Rattle.std.proofs.Common.{refl}
use Rattle.larch_flat_meaning.specs.Examples.{computing}
use Rattle.larch_flat_meaning.proofs.examples.what_cannot_be_renamed.Goals as goal

pub returns-clause-markers : goal.returns-clause-markers
unfolding computing
returns-clause-markers c = refl

pub returns-clause-sort_to_form : goal.returns-clause-sort_to_form
unfolding computing
returns-clause-sort_to_form c = refl

pub returns-clause-no_signature : goal.returns-clause-no_signature
unfolding computing
returns-clause-no_signature c = refl

pub returns-clause-formal_to_form : goal.returns-clause-formal_to_form
unfolding computing
returns-clause-formal_to_form c = refl

pub returns-clause-formal_named : goal.returns-clause-formal_named
unfolding computing
returns-clause-formal_named c = refl

pub returns-clause-truth : goal.returns-clause-truth
unfolding computing
returns-clause-truth c = refl

pub returns-clause-signed_truth : goal.returns-clause-signed_truth
unfolding computing
returns-clause-signed_truth c = refl

pub returns-clause-bare_truth : goal.returns-clause-bare_truth
unfolding computing
returns-clause-bare_truth c = refl

pub returns-clause-own_truth : goal.returns-clause-own_truth
unfolding computing
returns-clause-own_truth c = refl
