use Rattle.std.proofs.Common.{refl}
use Rattle.larch_flat_meaning.specs.Examples.{computing}
use Rattle.larch_flat_meaning.proofs.examples.what_is_too_large.Goals as goal

pub returns-clause-statements : goal.returns-clause-statements
unfolding computing
returns-clause-statements c = refl

pub returns-clause-statements_fit : goal.returns-clause-statements_fit
unfolding computing
returns-clause-statements_fit c = refl

pub returns-clause-nodes : goal.returns-clause-nodes
unfolding computing
returns-clause-nodes c = refl

pub returns-clause-nodes_fit : goal.returns-clause-nodes_fit
unfolding computing
returns-clause-nodes_fit c = refl

pub returns-clause-reference : goal.returns-clause-reference
unfolding computing
returns-clause-reference c = refl

pub returns-clause-rename_first : goal.returns-clause-rename_first
unfolding computing
returns-clause-rename_first c = refl

pub returns-clause-name : goal.returns-clause-name
unfolding computing
returns-clause-name c = refl

pub returns-clause-items_first : goal.returns-clause-items_first
unfolding computing
returns-clause-items_first c = refl
