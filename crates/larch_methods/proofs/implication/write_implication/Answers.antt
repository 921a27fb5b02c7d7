use Rattle.std.specs.Prelude.{true}
use Rattle.std.proofs.Common.{sym, ◌∙◌}
use Rattle.larch_term.specs.Truth.{truth}
use Rattle.larch_derive.proofs.Growth.{extends_grows, grows_trans, known_stands}
use Rattle.larch_methods.proofs.Sharing.{closed_as, closed_up, inside_as, inside_grown, said_left, shows_still}
use Rattle.larch_methods.proofs.Sharing.{value_known}
use Rattle.larch_calculus.specs.Formula.{implication}
use Rattle.larch_methods.proofs.implication.write_implication.Goals as goal

pub returns-clause-says : goal.returns-clause-says
returns-clause-says c a p q e h =
    let w = c.as_slice.ensures ∙ c.in_ok-variables.ensures p q e in
    let k = h.closed_known in
    let t = c.in_ok-otherwise.ensures.shows _ _ h.closed_is k in
    let x = c.in_ok-otherwise.ensures.grows _ _ h.closed_is k in
    let m = shows_still _ _ _ true _ _ x h.shows in
    let v = closed_up h.box.constants p h.inside.sorts in
    let y = c.in_ok-line.ensures.extends m.box t.box _ _ truth m.number_is t.number_is m.result t.result m.bare
    t.bare v in
    let s = c.in_ok-line.ensures.says m.box t.box _ _ truth m.number_is t.number_is m.result t.result m.bare t.bare v in
    let i = inside_grown a _ _ h.box _ h.inside (grows_trans _ _ _ x (extends_grows _ _ y)) in
    said_left _ _ _ _ truth (sym e)
    (c.in_ok-freed.ensures.says a h.box (implication p q) truth h.number_is (inside_as a _ h.box _ _ w i)
    (closed_as _ _ h.box _ _ (implication p q) truth w (said_left _ _ _ _ truth h.closed_is s))
    h.formula.known (value_known a true (known_stands a _ h.formula.known)) h.formula.sort)

pub returns-clause-grows : goal.returns-clause-grows
returns-clause-grows c a p q e h =
    let w = c.as_slice.ensures ∙ c.in_ok-variables.ensures p q e in
    let k = h.closed_known in
    let t = c.in_ok-otherwise.ensures.shows _ _ h.closed_is k in
    let x = c.in_ok-otherwise.ensures.grows _ _ h.closed_is k in
    let m = shows_still _ _ _ true _ _ x h.shows in
    let v = closed_up h.box.constants p h.inside.sorts in
    let y = c.in_ok-line.ensures.extends m.box t.box _ _ truth m.number_is t.number_is m.result t.result m.bare
    t.bare v in
    let s = c.in_ok-line.ensures.says m.box t.box _ _ truth m.number_is t.number_is m.result t.result m.bare t.bare v in
    let i = inside_grown a _ _ h.box _ h.inside (grows_trans _ _ _ x (extends_grows _ _ y)) in
    c.in_ok-freed.ensures.grows a h.box (implication p q) truth h.number_is (inside_as a _ h.box _ _ w i)
    (closed_as _ _ h.box _ _ (implication p q) truth w (said_left _ _ _ _ truth h.closed_is s))
    h.formula.known (value_known a true (known_stands a _ h.formula.known))
