use Rattle.std.proofs.Common.{◌∷◌, sym, subst}
use Rattle.larch_syntax_heads.specs.Outcome.{Settles, hand_over}
use Rattle.larch_syntax.proofs.hand.pass.Goals as goal

pub returns-in-InRight-clause-frames : goal.returns-in-InRight-clause-frames
returns-in-InRight-clause-frames c = c.hand_equation.ensures.frames c.args.stack

pub returns-in-InExempted-clause-outcome : goal.returns-in-InExempted-clause-outcome
returns-in-InExempted-clause-outcome c =
    subst (λ frame. Settles c.in_exempted.result (hand_over c.args.term (frame ∷ c.args.stack) c.args.terminal))
    (sym c.in-InExempted.is)
    (c.in_exempted.ensures.outcome c.args.stack)

pub returns-in-InExempted-clause-frames : goal.returns-in-InExempted-clause-frames
returns-in-InExempted-clause-frames c = c.in_exempted.ensures.frames c.args.stack
