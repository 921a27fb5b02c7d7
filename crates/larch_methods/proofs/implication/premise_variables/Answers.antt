use Rattle.std.proofs.Common.{ap, ◌∙◌}
use Rattle.larch_term.specs.BuiltIn.{built_in, bool_sort}
use Rattle.larch_term.specs.Variable.{variables_of}
use Rattle.larch_term.specs.declared.built_in.BuiltIn.TheVariants.{Implies}
use Rattle.larch_methods.proofs.Connectives.{only_arguments}
use Rattle.larch_methods.proofs.implication.premise_variables.Goals as goal

pub returns : goal.returns
returns c p q e =
    c.in_ok-found.ensures
    ∙ ap variables_of (only_arguments _ _ _ (built_in Implies bool_sort) p q c.in_ok-two.ensures e).0
