use Rattle.std.proofs.Common.{ap, arith, map, rules, sym, take, ◌∙◌}
use Rattle.std.proofs.lemmas.List.{length-map}
use Rattle.std.specs.List.{take-map}
use Rattle.larch_session_trail.proofs.States.{cut, take_least}
use Rattle.larch_session_trail.proofs.trail.Trail.front.Goals as goal
use Rattle.larch_session_trail.specs.Trail.{later_in}

pub returns : goal.returns
returns c = λ s answer block h.
    let all = length-map c.args.self.now.later.items (λ x. x.value) in
    let len = c.len.ensures in
    let most = c.min-most.ensures in
    cut c.args.commands s answer block c.args.self.now
    (record { first = c.in_ok-first.first; later = c.in_ok-later.later }) (search rules)
    (c.in_ok-later.ensures ∙ ap (λ states. map (λ x. x.value) (take c.min-most.result states)) c.deref.ensures.value
    ∙ sym (take-map (λ x. x.value) c.min-most.result c.args.self.now.later.items)
    ∙ take_least (later_in c.args.self.now) c.args.commands c.min-most.result (omega (arith, all, len, most))) h
