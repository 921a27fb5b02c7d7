use Rattle.std.proofs.Common.{ap, sym, ◌∙◌}
use Rattle.std.specs.Prelude.{map, []}
use Rattle.larch_derive.proofs.Growth.{extends_grows, grown_known, grows_trans}
use Rattle.larch_derive.specs.VerifyMeaningMatching.{variable_of}
use Rattle.larch_methods.proofs.Sharing.{own_still, result_for, written_back}
use Rattle.larch_methods.proofs.Worded.{written_names}
use Rattle.larch_methods.proofs.boxes.write_freed.Goals as goal

pub returns-clause-says : goal.returns-clause-says
returns-clause-says c a x l r e h q k m s =
    let vs = ap (map variable_of) c.in_ok-variables.ensures ∙ written_back _ in
    let g = c.in_ok-close_box.ensures.grows a h.opened x [] _ _ h.opens h.grows q in
    c.in_ok-freed.ensures.says x l r e
    (result_for _ _ _ x l r vs (c.in_ok-close_box.ensures.result a h.opened x [] _ _ h.opens h.grows q))
    (own_still a _ x g h.own) (h.sorts ∙ ap (map (λ v. v.sort)) (sym vs)) (grown_known a _ l g k)
    (grown_known a _ r g m) s (written_names _ _ c.in_ok-variables.ensures h.names)

pub returns-clause-grows : goal.returns-clause-grows
returns-clause-grows c a x l r e h q k m =
    let vs = ap (map variable_of) c.in_ok-variables.ensures ∙ written_back _ in
    let g = c.in_ok-close_box.ensures.grows a h.opened x [] _ _ h.opens h.grows q in
    grows_trans a _ _ g (extends_grows _ _ (c.in_ok-freed.ensures.extends x l r e
    (result_for _ _ _ x l r vs (c.in_ok-close_box.ensures.result a h.opened x [] _ _ h.opens h.grows q))
    (own_still a _ x g h.own) (h.sorts ∙ ap (map (λ v. v.sort)) (sym vs)) (grown_known a _ l g k)
    (grown_known a _ r g m) (written_names _ _ c.in_ok-variables.ensures h.names)))
