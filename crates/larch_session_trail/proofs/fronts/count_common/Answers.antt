-- Command by command.
use Rattle.std.proofs.Common.{IsTrue, ap₂, arith, drop, rules, ◌≡◌, ◌+◌, ◌∙◌}
use Rattle.larch_prove_meaning.specs.Scripts.{commands_of}
use Rattle.larch_script_commands.proofs.Decided.{kind_Decides}
use Rattle.larch_session_trail.proofs.Exchange.{drop_item, ends, onward, stops}
use Rattle.larch_session_trail.proofs.fronts.count_common.Goals as goal
use Rattle.larch_session_trail.specs.Trail.{common}

pub returns-then-not-same_command : goal.returns-then-not-same_command
returns-then-not-same_command c =
    let i = c.loop-number.number in
    let test = c.loop-number-test.true in
    let most = c.min-most.ensures in
    stops (common (commands_of c.args.before.now) (commands_of c.args.now.now)) i c.index-before-number.result
    c.index-now-number.result (drop (i + 1) c.args.before.now) (drop (i + 1) c.args.now.now)
    (λ e. let h : IsTrue c.same_command.result = c.same_command.ensures.1 ((kind_Decides
    c.index-before-number.result.kind c.index-now-number.result.kind).0 e) in search rules)
    (c.loop-number.invariant ∙ ap₂ (λ bs cs. i + common (commands_of bs) (commands_of cs))
    (drop_item c.args.before.now i c.index-before-number.result (omega (arith, test, most)) c.index-before-number.is)
    (drop_item c.args.now.now i c.index-now-number.result (omega (arith, test, most)) c.index-now-number.is))

pub loop-number-preserved : goal.loop-number-preserved
loop-number-preserved c =
    let i = c.loop-number.number in
    let test = c.loop-number-test.true in
    let most = c.min-most.ensures in
    let same : IsTrue c.same_command.result = search rules in
    onward (common (commands_of c.args.before.now) (commands_of c.args.now.now)) i c.index-before-number.result
    c.index-now-number.result (drop (i + 1) c.args.before.now) (drop (i + 1) c.args.now.now)
    ((kind_Decides c.index-before-number.result.kind c.index-now-number.result.kind).1 (c.same_command.ensures.0 same))
    (c.loop-number.invariant ∙ ap₂ (λ bs cs. i + common (commands_of bs) (commands_of cs))
    (drop_item c.args.before.now i c.index-before-number.result (omega (arith, test, most)) c.index-before-number.is)
    (drop_item c.args.now.now i c.index-now-number.result (omega (arith, test, most)) c.index-now-number.is))

pub returns : goal.returns
returns c =
    let test = c.loop-number-test.false in
    let end = c.loop-number.auto.number-end in
    let most = c.min-most.ensures in
    let last : c.min-most.result ≡ c.loop-number.number = omega (arith, test, end) in
    last ∙ ends (common (commands_of c.args.before.now) (commands_of c.args.now.now)) c.loop-number.number
    c.args.before.now c.args.now.now (omega (arith, last, most)) c.loop-number.invariant
