use Rattle.std.proofs.Common.{refl}
use Rattle.larch_session_meaning.specs.Examples.{reporting}
use Rattle.larch_session_meaning.proofs.examples.a_trait_with_a_script.Goals as goal

pub returns-clause-nothing : goal.returns-clause-nothing
unfolding reporting
returns-clause-nothing c = refl

pub returns-clause-without : goal.returns-clause-without
unfolding reporting
returns-clause-without c = refl

pub returns-clause-empty : goal.returns-clause-empty
unfolding reporting
returns-clause-empty c = refl

pub returns-clause-proved : goal.returns-clause-proved
unfolding reporting
returns-clause-proved c = refl

pub returns-clause-refused : goal.returns-clause-refused
unfolding reporting
returns-clause-refused c = refl
