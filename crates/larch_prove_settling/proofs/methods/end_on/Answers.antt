-- The level's way, joined with the line of the method's end, says that its first goal is true.
use Rattle.std.proofs.Common.{refl, subst, sym, ◌∙◌}
use Rattle.larch_derive.proofs.Growth.{extends_grows}
use Rattle.larch_derive.specs.Predicates.{HasEquation}
use Rattle.larch_prove_draft.proofs.ProveInvariantLeft.{stands_grow}
use Rattle.larch_prove_settling.proofs.Leaving.{if_both, said_as}
use Rattle.larch_prove_settling.proofs.MethodEnds.{are_left_as}
use Rattle.larch_prove_settling.proofs.methods.end_on.Goals as goal

pub end_method-requires-clause-left : goal.end_method-requires-clause-left
end_method-requires-clause-left c =
    let w = c.requires.left in
    (w.0, are_left_as _ _ _ _ _ _ _ _ _ (sym c.in_ok-term.ensures) refl refl w.1)

pub returns : goal.returns
returns c =
    if_both _ _ _ c.push_trans.result (λ line x f t s a k ks goal_is way_is left stands.
    let z = c.in_ok-said.ensures.stands t s a k ks
    (are_left_as _ _ _ _ _ _ _ _ _ (sym c.in_ok-term.ensures) refl refl left) stands in
    let way = subst (λ n. HasEquation c.end_method.new.builder n k.book.first k.level.goal) way_is z.says.way in
    let said = said_as _ _ _ _ _ _ (sym (goal_is ∙ sym c.in_ok-term.ensures)) refl c.in_ok-said.ensures.says in (
      stands_grow t s c.end_method.new.builder c.push_trans.new.builder k ks
          (extends_grows _ _ (x _ _ _ way said)) z,
      f _ _ _ way said,
    )) c.push_trans.ensures.extends c.push_trans.ensures.says
