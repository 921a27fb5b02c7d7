use Rattle.std.proofs.Common.{refl}
use Rattle.larch_flat_meaning.specs.Examples.{computing}
use Rattle.larch_flat_meaning.proofs.examples.each_code_stands_in_its_place.Goals as goal

pub returns-clause-trait_name : goal.returns-clause-trait_name
unfolding computing
returns-clause-trait_name c = refl

pub returns-clause-unknown_trait : goal.returns-clause-unknown_trait
unfolding computing
returns-clause-unknown_trait c = refl

pub returns-clause-itself : goal.returns-clause-itself
unfolding computing
returns-clause-itself c = refl

pub returns-clause-rename_nothing : goal.returns-clause-rename_nothing
unfolding computing
returns-clause-rename_nothing c = refl

pub returns-clause-rename_bool : goal.returns-clause-rename_bool
unfolding computing
returns-clause-rename_bool c = refl

pub returns-clause-rename_twice : goal.returns-clause-rename_twice
unfolding computing
returns-clause-rename_twice c = refl

pub returns-clause-rename_too_many : goal.returns-clause-rename_too_many
unfolding computing
returns-clause-rename_too_many c = refl

pub returns-clause-bad_reference : goal.returns-clause-bad_reference
unfolding computing
returns-clause-bad_reference c = refl

pub returns-clause-rename_to_built_in : goal.returns-clause-rename_to_built_in
unfolding computing
returns-clause-rename_to_built_in c = refl

pub returns-clause-field_twice : goal.returns-clause-field_twice
unfolding computing
returns-clause-field_twice c = refl

pub returns-clause-arity : goal.returns-clause-arity
unfolding computing
returns-clause-arity c = refl

pub returns-clause-built_in : goal.returns-clause-built_in
unfolding computing
returns-clause-built_in c = refl

pub returns-clause-no_reading : goal.returns-clause-no_reading
unfolding computing
returns-clause-no_reading c = refl
