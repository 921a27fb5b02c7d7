use Rattle.std.specs.Prelude.{All, IfSome}
use Rattle.std.proofs.Common.{sym, subst}
use Rattle.std.proofs.lemmas.List.Elements.{All-nil, All-push}
use Rattle.std.proofs.lemmas.Result.{err_from_is_err_and}
use Rattle.larch_derive.proofs.Growth.{extends_refl}
use Rattle.larch_store.specs.Stored.{Belongs}
use Rattle.larch_rewrite.specs.Level.{IsArgument, IsFrameOf}
use Rattle.larch_rewrite.specs.declared.level.Turn.TheVariants.{Arguments}
use Rattle.larch_rewrite.proofs.Turns.{tells_whole, works_deeper, works_on}
use Rattle.larch_rewrite.proofs.Lines.{says_deeper, says_on, way_formed}
use Rattle.larch_rewrite.proofs.Stored.{child_belongs, frames_stay}
use Rattle.larch_rewrite.proofs.machine.go_on.Goals as goal

-- the argument that begins
begins : (c : goal.In_ok-push-in-Some) → IsArgument c.args.frame c.args.pending.now.means.left c.in-Some.level
begins c =
    subst (λ o. IfSome o (IsArgument c.args.frame c.args.pending.now.means.left)) c.in-Some.is
    c.in_ok-level.ensures.some

pub returns-in_ok-push-in-Some-clause-frames : goal.returns-in_ok-push-in-Some-clause-frames
returns-in_ok-push-in-Some-clause-frames c =
    subst (All (IsFrameOf _)) (sym c.in_ok-push-in-Some.ensures.items)
    (All-push (IsFrameOf _) _ _ c.requires.frames
    (c.requires.turn.0, c.requires.turn.1, c.requires.turn.2, (begins c).0))

pub returns-in_ok-push-in-Some-clause-turn : goal.returns-in_ok-push-in-Some-clause-turn
returns-in_ok-push-in-Some-clause-turn c =
    let b = child_belongs _ _ _ _ (c.children_belong.ensures _ c.requires.turn.1) (begins c).1 in
    (b, subst (Belongs _) (sym (begins c).4) b, All-nil _)

pub returns-in_ok-push-in-Some-clause-works : goal.returns-in_ok-push-in-Some-clause-works
returns-in_ok-push-in-Some-clause-works c rs whole budget kept h =
    works_deeper _ _ _ _ _ _ _ _ _ c.in_ok-push-in-Some.ensures.items (begins c) h

pub returns-in_ok-push-in-Some-clause-says : goal.returns-in_ok-push-in-Some-clause-says
returns-in_ok-push-in-Some-clause-says c b rules kept h =
    says_deeper _ _ _ _ _ _ _ _ c.in_ok-push-in-Some.ensures.items (begins c) h

pub returns-in_ok-turn-in-None-clause-frames : goal.returns-in_ok-turn-in-None-clause-frames
returns-in_ok-turn-in-None-clause-frames c =
    frames_stay _ _ _ c.in_ok-turn-in-None.ensures.grows c.requires.frames

pub returns-in_ok-turn-in-None-clause-works : goal.returns-in_ok-turn-in-None-clause-works
returns-in_ok-turn-in-None-clause-works c rs whole budget kept h =
    works_on _ _ _ _ _ _ _ _ _ c.in_ok-turn-in-None.ensures.start (c.in_ok-turn-in-None.ensures.work rs _) h

pub returns-in_ok-turn-in-None-clause-says : goal.returns-in_ok-turn-in-None-clause-says
returns-in_ok-turn-in-None-clause-says c b rules kept h =
    says_on b b _ _ _ (Arguments c.args.frame) c.in_ok-turn-in-None.turn
    (extends_refl b) c.in_ok-turn-in-None.ensures.start
    (way_formed b _ (Arguments c.args.frame) c.in_ok-turn-in-None.turn c.in_ok-turn-in-None.ensures.way
    c.in_ok-turn-in-None.ensures.reached h.way) h

pub returns-in_err-turn-in-None-clause-refused : goal.returns-in_err-turn-in-None-clause-refused
returns-in_err-turn-in-None-clause-refused c =
    let p =
    err_from_is_err_and c.from_residual-in_err-turn-in-None.result c.from_residual-in_err-turn-in-None.ensures.1 in
    rw (p.1, p.2) (λ rs whole budget kept h. tells_whole _ _ _ _ _ _ _ _ h (c.in_err-turn-in-None.ensures.refused rs _))
