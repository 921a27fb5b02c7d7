use Rattle.std.proofs.Common.{subst}
use Rattle.larch_prove_boxes.proofs.Closing.{OpenStill, all_closed, all_open, one_closed}
use Rattle.larch_prove_boxes.proofs.leaving.close_extras.Goals as goal

pub loop-innermost-init : goal.loop-innermost-init
loop-innermost-init c t s h cs levels k ks w e none m p q d = all_open t s _ k ks _ _ _ _ e m d

pub loop-innermost-preserved : goal.loop-innermost-preserved
loop-innermost-preserved c t s h cs levels k ks w e none m p q d =
    one_closed t s h cs levels k ks c.loop-innermost.builder c.push_outside.new.builder c.in-Some.outer.now
    c.in-Some.innermost.now c.loop-innermost.said c.in_ok-said.said c.args.left.now c.args.right.now w none p q
    c.in_ok-said.ensures.says c.in_ok-said.ensures.grows
    (subst (λ bs. OpenStill t s c.loop-innermost.builder k ks bs c.loop-innermost.said c.args.left.now c.args.right.now)
    c.in-Some.ensures.cases.0 (c.loop-innermost.invariant t s h cs levels k ks w e none m p q d))

pub returns : goal.returns
returns c t s h cs levels k ks w e none m p q d =
    all_closed t s c.loop-innermost.builder k ks c.loop-innermost.rest.now c.loop-innermost.said c.args.left.now
    c.args.right.now c.in_default.ensures.cases (c.loop-innermost.invariant t s h cs levels k ks w e none m p q d)
