use Rattle.larch_term.specs.Truth.{truth}
use Rattle.larch_methods.proofs.Connectives.{only_arguments}
use Rattle.larch_methods.proofs.Settled.{conclusion_settles}
use Rattle.larch_methods.proofs.implication.push_implied.Goals as goal
use Rattle.larch_term.specs.BuiltIn.{built_in, bool_sort}
use Rattle.larch_term.specs.declared.built_in.BuiltIn.TheVariants.{Implies}

pub returns-in_err-implied-clause-extends : goal.returns-in_err-implied-clause-extends
returns-in_err-implied-clause-extends c p q e k h =
    c.in_err-implied.ensures.extends truth
    (conclusion_settles _ _ p q _ _ e (only_arguments _ _ _
    (built_in Implies bool_sort) p q c.in_ok-two.ensures e).0 k h)

pub returns-clause-says : goal.returns-clause-says
returns-clause-says c p q e k h =
    c.in_ok-implied.ensures.says truth
    (conclusion_settles _ _ p q _ _ e (only_arguments _ _ _
    (built_in Implies bool_sort) p q c.in_ok-two.ensures e).0 k h)

pub returns-clause-extends : goal.returns-clause-extends
returns-clause-extends c p q e k h =
    c.in_ok-implied.ensures.extends truth
    (conclusion_settles _ _ p q _ _ e (only_arguments _ _ _
    (built_in Implies bool_sort) p q c.in_ok-two.ensures e).0 k h)
