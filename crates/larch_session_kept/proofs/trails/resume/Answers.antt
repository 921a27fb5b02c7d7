-- Behind the common front.
use Rattle.std.proofs.Common.{ap, arith, drop, length, ◌-◌}
use Rattle.std.proofs.lemmas.List.{length-drop, take_all}
use Rattle.larch_prove_meaning.specs.Redo.{behind_common}
use Rattle.larch_prove_meaning.specs.Scripts.{commands_of}
use Rattle.larch_session_kept.proofs.Records.{resumed}
use Rattle.larch_session_kept.proofs.trails.resume.Goals as goal

pub go_on-requires-clause-some : goal.go_on-requires-clause-some
go_on-requires-clause-some g c =
    let some = c.requires.kept in
    (some.0, (some.1.0, (_, c.in_ok-trail.ensures some.0 some.1.0 some.1.1.0 some.1.1.1)))

pub returns-clause-trail : goal.returns-clause-trail
returns-clause-trail g c = λ s answer h.
    let rest = length-drop c.common_front-front.result c.args.commands.now in
    resumed s answer c.common_front-front.result c.args.kept.now.trail c.in_ok-trail.trail c.go_on.new.self _ _
    c.args.commands.now _ c.commands.ensures
    (take_all (length c.args.commands.now - c.common_front-front.result)
    (drop c.common_front-front.result c.args.commands.now) (omega (arith, rest))) (c.in_ok-trail.ensures s answer)
    (c.common_front-front.ensures.states s answer c.in_ok-trail.trail) (c.in_ok-go_on.ensures.states s answer) h

pub returns-clause-most : goal.returns-clause-most
returns-clause-most g c =
    let most = c.in_ok-go_on.ensures.most in
    let behind = c.common_front-front.ensures.behind in
    let within = c.common_front-front.ensures.within in
    let same = ap (λ b. behind_common b (commands_of c.args.commands.now)) c.commands.ensures in
    let rest = length-drop c.common_front-front.result c.args.commands.now in
    omega (arith, most, behind, within, same, rest)
