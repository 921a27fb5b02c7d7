use Rattle.std.specs.Prelude.{[], map, refl}
use Rattle.std.proofs.Common.{ap, sym, ◌∙◌}
use Rattle.larch_derive.specs.VerifyMeaningMatching.{variable_of}
use Rattle.larch_derive.proofs.Growth.{extends_grows, grown_known, grows_trans}
use Rattle.larch_methods.specs.Inside.{written_variable}
use Rattle.larch_methods.specs.Observers.{variables_for}
use Rattle.larch_methods.proofs.Leaving.{closed_by_letters, letter_sorts}
use Rattle.larch_methods.proofs.Sharing.{own_still, result_for, written_back}
use Rattle.larch_methods.proofs.Worded.{names_are_words, written_names}
use Rattle.larch_methods.proofs.outside.write_outside.Goals as goal

pub returns-clause-says : goal.returns-clause-says
returns-clause-says c a h own q k m s =
    let x = c.args.innermost.now in
    let n = c.in_ok-letters.letters in
    let l = c.args.left.now in
    let r = c.args.right.now in
    let ws = variables_for n x.constants in
    let e = c.in_ok-variables.ensures ∙ ap (λ cs. map written_variable (variables_for n cs)) c.as_slice.ensures in
    let vs = ap (map variable_of) e ∙ written_back ws in
    let w = closed_by_letters _ _ x n l r c.in_ok-letters.ensures.left c.in_ok-letters.ensures.right q in
    let g = c.in_ok-close_box.ensures.grows a h.opened x [] _ _ h.opens h.grows w in
    c.in_ok-said.ensures.says x l r refl
    (result_for _ _ _ x l r vs (c.in_ok-close_box.ensures.result a h.opened x [] _ _ h.opens h.grows w))
    (own_still a _ x g own) (letter_sorts n x.constants ∙ ap (map (λ v. v.sort)) (sym vs)) (grown_known a _ l g k)
    (grown_known a _ r g m) s (written_names _ _ e (names_are_words n x.constants c.in_ok-letters.ensures.least))

pub returns-clause-grows : goal.returns-clause-grows
returns-clause-grows c a h own q k m =
    let x = c.args.innermost.now in
    let n = c.in_ok-letters.letters in
    let l = c.args.left.now in
    let r = c.args.right.now in
    let ws = variables_for n x.constants in
    let e = c.in_ok-variables.ensures ∙ ap (λ cs. map written_variable (variables_for n cs)) c.as_slice.ensures in
    let vs = ap (map variable_of) e ∙ written_back ws in
    let w = closed_by_letters _ _ x n l r c.in_ok-letters.ensures.left c.in_ok-letters.ensures.right q in
    let g = c.in_ok-close_box.ensures.grows a h.opened x [] _ _ h.opens h.grows w in
    grows_trans a _ _ g (extends_grows _ _ (c.in_ok-said.ensures.extends x l r refl
    (result_for _ _ _ x l r vs (c.in_ok-close_box.ensures.result a h.opened x [] _ _ h.opens h.grows w))
    (own_still a _ x g own) (letter_sorts n x.constants ∙ ap (map (λ v. v.sort)) (sym vs)) (grown_known a _ l g k)
    (grown_known a _ r g m) (written_names _ _ e (names_are_words n x.constants c.in_ok-letters.ensures.least))))
