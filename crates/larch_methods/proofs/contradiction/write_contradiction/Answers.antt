use Rattle.std.specs.Prelude.{◌≡◌, [], true, false}
use Rattle.std.proofs.Common.{sym, subst, ◌∙◌}
use Rattle.larch_term.specs.Truth.{truth}
use Rattle.larch_term.specs.Variable.{occurrences}
use Rattle.larch_derive.proofs.Growth.{extends_grows, grows_trans, known_stands}
use Rattle.larch_methods.proofs.Sharing.{closed_as, closed_up, inside_as, inside_grown, said_left, shows_still}
use Rattle.larch_methods.proofs.Sharing.{value_known}
use Rattle.larch_methods.proofs.contradiction.write_contradiction.Goals as goal

pub returns-clause-says : goal.returns-clause-says
returns-clause-says c a h =
    let e = c.as_slice.ensures ∙ c.in_ok-variables.ensures in
    let t = c.in_ok-supposed.ensures.shows h.closed_known in
    let x = c.in_ok-supposed.ensures.grows h.closed_known in
    let n = shows_still _ _ _ false _ _ x h.shows in
    let v = subst (λ f. occurrences f ≡ []) (sym h.closed_is)
    (closed_up h.box.constants c.args.goal.now h.inside.sorts) in
    let y = c.in_ok-line.ensures.extends t.box n.box _ _ truth t.number_is n.number_is t.result n.result t.bare
    n.bare v in
    let s = c.in_ok-line.ensures.says t.box n.box _ _ truth t.number_is n.number_is t.result n.result t.bare n.bare v in
    let i = inside_grown a _ _ h.box _ h.inside (grows_trans _ _ _ x (extends_grows _ _ y)) in
    c.in_ok-freed.ensures.says a h.box c.args.goal.now truth h.number_is (inside_as a _ h.box _ _ e i)
    (closed_as _ _ h.box _ _ c.args.goal.now truth e (said_left _ _ _ _ truth h.closed_is s)) h.formula.known
    (value_known a true (known_stands a _ h.formula.known)) h.formula.sort

pub returns-clause-grows : goal.returns-clause-grows
returns-clause-grows c a h =
    let e = c.as_slice.ensures ∙ c.in_ok-variables.ensures in
    let t = c.in_ok-supposed.ensures.shows h.closed_known in
    let x = c.in_ok-supposed.ensures.grows h.closed_known in
    let n = shows_still _ _ _ false _ _ x h.shows in
    let v = subst (λ f. occurrences f ≡ []) (sym h.closed_is)
    (closed_up h.box.constants c.args.goal.now h.inside.sorts) in
    let y = c.in_ok-line.ensures.extends t.box n.box _ _ truth t.number_is n.number_is t.result n.result t.bare
    n.bare v in
    let s = c.in_ok-line.ensures.says t.box n.box _ _ truth t.number_is n.number_is t.result n.result t.bare n.bare v in
    let i = inside_grown a _ _ h.box _ h.inside (grows_trans _ _ _ x (extends_grows _ _ y)) in
    c.in_ok-freed.ensures.grows a h.box c.args.goal.now truth h.number_is (inside_as a _ h.box _ _ e i)
    (closed_as _ _ h.box _ _ c.args.goal.now truth e (said_left _ _ _ _ truth h.closed_is s)) h.formula.known
    (value_known a true (known_stands a _ h.formula.known))
