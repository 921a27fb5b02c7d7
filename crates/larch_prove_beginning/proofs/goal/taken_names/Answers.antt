use Rattle.std.proofs.Common.{ap₂, map, ◌++◌, ◌∙◌}
use Rattle.larch_prove_beginning.proofs.goal.taken_names.Goals as goal
use Rattle.larch_prove_opening.specs.ProvePlansPlanning.{names_of_operators}
use Rattle.larch_prove_settling.proofs.Leaving.{if_answered}

pub returns : goal.returns
returns c =
    if_answered _ _ c.names_of.result (λ names e.
    e ∙ ap₂ (λ fs vs. names_of_operators fs ++ map (λ v. v.0) vs) c.as_slice.ensures c.variables.ensures)
    c.names_of.ensures
