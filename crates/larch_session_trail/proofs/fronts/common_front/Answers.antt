use Rattle.std.proofs.Common.{arith, subst, sym, take}
use Rattle.std.proofs.lemmas.List.{length-map}
use Rattle.larch_prove_meaning.specs.Scripts.{commands_of}
use Rattle.larch_script_commands.specs.declared.command.RawCommand.{RawCommand}
use Rattle.larch_session_trail.proofs.Exchange.{common_behind, exchange}
use Rattle.larch_session_trail.proofs.fronts.common_front.Goals as goal
use Rattle.larch_session_trail.specs.Trail.{IsTrailOf, later_in}

pub returns-clause-within : goal.returns-clause-within
returns-clause-within c =
    let most = common_behind (commands_of c.args.before.now) (commands_of c.args.now.now) in
    let is = c.count_common.ensures in
    let all = length-map c.args.now.now (λ (x : RawCommand). x.kind) in
    omega (arith, most, is, all)

pub returns-clause-behind : goal.returns-clause-behind
returns-clause-behind c =
    let most = common_behind (commands_of c.args.before.now) (commands_of c.args.now.now) in
    let is = c.count_common.ensures in
    let all = length-map c.args.now.now (λ (x : RawCommand). x.kind) in
    omega (arith, most, is, all)

pub returns-clause-states : goal.returns-clause-states
returns-clause-states c = λ s answer trail h.
    subst (λ n. IsTrailOf s answer (take n (commands_of c.args.now.now)) trail) (sym c.count_common.ensures)
    (exchange s answer (commands_of c.args.before.now) (commands_of c.args.now.now) trail.first.value (later_in trail)
    (subst (λ n. IsTrailOf s answer (take n (commands_of c.args.before.now)) trail) c.count_common.ensures h))
