-- The boxes are closed by the level's own first goal.
use Rattle.std.proofs.Common.{sym, ◌∙◌}
use Rattle.larch_prove_settling.proofs.Leaving.{if_answered, said_as}
use Rattle.larch_prove_settling.proofs.parts.leave_extras.Goals as goal

pub returns : goal.returns
returns c =
    if_answered _ _ c.close_extras.result (λ n h t s a cs levels k ks held is leaving says.
    let first = c.in_ok-first.ensures ∙ sym is.first in
    let z = h t s a cs levels k ks held (is.extras
    ∙ sym c.as_slice-2.ensures) is.making leaving first c.in_ok-truth.ensures
    (said_as _ _ _ _ _ _ (sym first) (sym c.in_ok-truth.ensures) says) in
    (z.0, said_as _ _ _ _ _ _ first c.in_ok-truth.ensures z.1)) c.close_extras.ensures
