use Rattle.std.proofs.Common.{◌∙◌}
use Rattle.larch_methods.proofs.Opened.{opened_with}
use Rattle.larch_methods.proofs.opening.open_with.Goals as goal

pub returns-clause-opens : goal.returns-clause-opens
returns-clause-opens c m =
    opened_with _ _ _ _ _ _ c.in_ok-number.ensures.ok (c.in_ok-copied.ensures ∙ c.as_slice.ensures) m
