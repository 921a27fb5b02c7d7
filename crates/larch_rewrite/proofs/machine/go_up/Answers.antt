use Rattle.std.specs.Prelude.{◌≡◌, ◌++◌, ◌∷◌, [], All, Some}
use Rattle.std.proofs.Common.{arith, sym, subst}
use Rattle.std.proofs.lemmas.Grind.{common_steps}
use Rattle.std.proofs.lemmas.List.Elements.{All-pop, All-push}
use Rattle.larch_store.specs.Stored.{Belongs, AllBelong}
use Rattle.larch_rewrite.specs.Level.{IsFrameOf}
use Rattle.larch_rewrite.proofs.Turns.{works_up}
use Rattle.larch_rewrite.proofs.Lines.{first_way, says_up}
use Rattle.larch_rewrite.proofs.machine.go_up.Goals as goal

popped : (c : goal.In_ok-frame) → c.args.pending.now.frames.items ≡ c.pop.new.self.items ++ c.in-Some.frame ∷ []
popped c = grind (arith, common_steps)

frames_popped : (c : goal.In_ok-frame)
    → All (IsFrameOf c.args.store.now) c.pop.new.self.items × IsFrameOf c.args.store.now c.in-Some.frame
frames_popped c =
    All-pop (IsFrameOf c.args.store.now) c.args.pending.now.frames.items c.pop.new.self.items (Some c.in-Some.frame)
    (popped c) c.requires.frames

pub returns-clause-frames : goal.returns-clause-frames
returns-clause-frames c = (frames_popped c).0

pub returns-clause-works : goal.returns-clause-works
returns-clause-works c rs whole budget kept h =
    works_up _ _ _ _ _ _ _ _ _ _ (popped c)
    (frames_popped c).1.3 c.in_ok-frame.ensures.level c.in_ok-frame.ensures.done h

pub returns-clause-says : goal.returns-clause-says
returns-clause-says c rules kept h d =
    let q = first_way _ _ _ _ _ _ _ (popped c) h in
    says_up _ _ _ _ _ _ _ _ _ (popped c) (frames_popped c).1.3 c.in_ok-frame.ensures.level c.in_ok-frame.ensures.done
    (c.in_ok-frame.ensures.extends q.0 h.way.1 q.1 d) (c.in_ok-frame.ensures.says q.0 h.way.1 q.1 d) h

pub returns-clause-extends : goal.returns-clause-extends
returns-clause-extends c rules kept h d =
    let q = first_way _ _ _ _ _ _ _ (popped c) h in c.in_ok-frame.ensures.extends q.0 h.way.1 q.1 d

pub returns-clause-turn : goal.returns-clause-turn
returns-clause-turn c =
    let a = (frames_popped c).1 in (
      subst (Belongs c.args.store.now) (sym c.in_ok-frame.ensures.level.0) a.0,
      subst (Belongs c.args.store.now) (sym c.in_ok-frame.ensures.level.2) a.1,
      subst (AllBelong c.args.store.now) (sym c.in_ok-frame.ensures.done)
          (All-push (Belongs c.args.store.now) _ _ a.2 c.requires.turn.1),
    )
