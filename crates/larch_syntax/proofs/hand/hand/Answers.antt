-- A frame that hands on leaves what is handed first.
use Rattle.std.proofs.Common.{◌≡◌, true, ◌∷◌, sym, ◌∙◌, ap}
use Rattle.larch_syntax_heads.specs.Outcome.{hand_over}
use Rattle.larch_syntax.specs.Hand.{hands_on}
use Rattle.larch_syntax.proofs.Passing.{handed_on}
use Rattle.larch_syntax.proofs.Stacks.{stack_of_top}
use Rattle.larch_syntax.proofs.hand.hand.Goals as goal

pub loop-frame-preserved-then-hands_on : goal.loop-frame-preserved-then-hands_on
loop-frame-preserved-then-hands_on c =
    let hands : hands_on c.in-Some.frame c.loop-frame.terminal ≡ true = sym c.hands_on.ensures ∙ c.if-hands_on.true in
    let stack : c.loop-frame.stack ≡ c.in-Some.frame ∷ c.pop.new.self =
    stack_of_top c.loop-frame.stack c.in-Some.frame (sym c.pop.ensures.frame ∙ c.in-Some.is)
    ∙ ap (λ k. c.in-Some.frame ∷ k) (sym c.pop.ensures.left) in
    sym (handed_on c.loop-frame.term c.in-Some.frame c.pop.new.self c.loop-frame.terminal hands)
    ∙ ap (λ k. hand_over c.loop-frame.term k c.loop-frame.terminal) (sym stack) ∙ c.loop-frame.invariant
