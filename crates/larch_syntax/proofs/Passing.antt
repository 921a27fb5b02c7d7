-- Frames that hand on the term and the token as they are, and outcomes that are not handed on.
use Rattle.std.specs.Prelude.{◌≡◌, true, None, refl, List, ◌∷◌, Result, Ok, Err, IfOk}
use Rattle.larch_raw.specs.RawTree.{RawTree}
use Rattle.larch_grammar.specs.declared.machine.Frame.{Frame}
use Rattle.larch_grammar.specs.declared.machine.Frame.TheVariants.{InConnectives, InEqualities, InFields, InInfixes}
use Rattle.larch_grammar.specs.declared.terminal.Terminal.{Terminal}
use Rattle.larch_grammar.specs.declared.terminal.Terminal.TheVariants.{Colon, Connective, Dot, Equality, OpenBracket}
use Rattle.larch_grammar.specs.declared.terminal.Terminal.TheVariants.{Symbol}
use Rattle.larch_syntax_heads.specs.Outcome.{Settles, hand_over}
use Rattle.larch_syntax_heads.specs.declared.outcome.Outcome.{Outcome}
use Rattle.larch_syntax_heads.specs.declared.outcome.Outcome.TheVariants.{Taken, Handed, Stops}
use Rattle.larch_syntax.specs.Hand.{hands_on}

pub handed_on : (r : RawTree) (f : Frame) (k : List Frame) (t : Terminal) → hands_on f t ≡ true
    → hand_over r (f ∷ k) t ≡ hand_over r k t
handed_on r InFields k (Dot p) e = absurd cc
handed_on r InFields k (Colon p) e = absurd cc
handed_on r InFields k (OpenBracket b p) e = absurd cc
handed_on r InFields k t e = refl
handed_on r (InInfixes None) k (Symbol x) e = absurd cc
handed_on r (InInfixes None) k t e = refl
handed_on r (InEqualities None) k (Equality x) e = absurd cc
handed_on r (InEqualities None) k t e = refl
handed_on r (InConnectives None) k (Connective x) e = absurd cc
handed_on r (InConnectives None) k t e = refl
handed_on r f k t e = absurd cc

-- what is answered and not handed on is what comes of it
pub not_handed : {Refusal : Type 0} (r : Result Outcome Refusal) (e : Outcome)
    → ((term : RawTree) (frames : List Frame) (terminal : Terminal) → r ≡ Ok (Handed term frames terminal) → ⊥)
    → Settles r e → IfOk r (λ answer. answer ≡ e)
not_handed (Ok (Taken mark after)) e h s = s
not_handed (Ok (Handed term frames terminal)) e h s = absurd (h term frames terminal refl)
not_handed (Ok (Stops whole)) e h s = s
not_handed (Err refusal) e h s = tt
