use Rattle.std.proofs.Common.{◌∙◌}
use Rattle.larch_term.specs.Truth.{truth}
use Rattle.larch_derive.proofs.Growth.{extends_grows, known_stands}
use Rattle.larch_methods.proofs.Sharing.{closed_as, closed_up, inside_as, inside_grown, value_known}
use Rattle.larch_methods.proofs.cases.write_cases.Goals as goal
use Rattle.std.specs.Prelude.{true}

pub returns-clause-says : goal.returns-clause-says
returns-clause-says c a g h =
    let e = c.as_slice.ensures ∙ c.in_ok-variables.ensures in
    let p = h.positive in
    let n = h.negative in
    let v = closed_up h.box.constants c.args.formula.now h.inside.sorts in
    let x = c.in_ok-line.ensures.extends p.box n.box _ _ truth p.number_is n.number_is p.result n.result p.bare
    n.bare v in
    let s = c.in_ok-line.ensures.says p.box n.box _ _ truth p.number_is n.number_is p.result n.result p.bare n.bare v in
    c.in_ok-freed.ensures.says a h.box g truth h.number_is
    (inside_as a _ h.box _ _ e (inside_grown a _ _ h.box _ h.inside (extends_grows _ _ x)))
    (closed_as _ _ h.box _ _ g truth e s) h.formula.known (value_known a true
    (known_stands a g h.formula.known)) h.formula.sort

pub returns-clause-grows : goal.returns-clause-grows
returns-clause-grows c a g h =
    let e = c.as_slice.ensures ∙ c.in_ok-variables.ensures in
    let p = h.positive in
    let n = h.negative in
    let v = closed_up h.box.constants c.args.formula.now h.inside.sorts in
    let x = c.in_ok-line.ensures.extends p.box n.box _ _ truth p.number_is n.number_is p.result n.result p.bare
    n.bare v in
    let s = c.in_ok-line.ensures.says p.box n.box _ _ truth p.number_is n.number_is p.result n.result p.bare n.bare v in
    c.in_ok-freed.ensures.grows a h.box g truth h.number_is
    (inside_as a _ h.box _ _ e (inside_grown a _ _ h.box _ h.inside (extends_grows _ _ x)))
    (closed_as _ _ h.box _ _ g truth e s) h.formula.known (value_known a true (known_stands a g h.formula.known))
