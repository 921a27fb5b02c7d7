use Rattle.std.proofs.Common.{arith, drop, refl, subst, sym, ◌∙◌, ◌+◌}
use Rattle.std.proofs.lemmas.List.{drop_all}
use Rattle.larch_session_replay.proofs.Carried.{Carried, at_first, drop_item, goes_on, last_end, one_more, refused_end}
use Rattle.larch_session_replay.proofs.carrying.carry_out.Goals as goal

pub loop-command-init : goal.loop-command-init
loop-command-init g c = (at_first c.args.state.now c.args.commands.now c.requires.state, (omega arith, refl))

pub loop-command-preserved : goal.loop-command-preserved
loop-command-preserved g c =
    let i = c.loop-command.invariant in
    let steps = i.1.0 in
    let taken = i.1.1 in
    let ticks = c.step.ensures.ticks in
    let left = drop_item c.args.commands.now c.loop-command.command-index c.command-item.result
    c.loop-command-test.true c.command-item.is in (
      one_more c.loop-command.state c.step.new.self c.command-item.result c.in_ok-step.ensures.stepped c.args.state.now
          (drop (c.loop-command.command-index + 1) c.args.commands.now) c.args.commands.now
          (subst (λ rest. Carried c.args.state.now c.loop-command.state rest c.args.commands.now) left i.0)
          (λ s answer h. sym c.if-refused.false ∙ c.in_ok-refused.ensures s answer h),
      (omega (arith, steps, ticks), omega (arith, taken)),
    )

pub step-requires-clause-going : goal.step-requires-clause-going
step-requires-clause-going g c =
    goes_on c.loop-command.state c.loop-command.invariant.0.some
    (λ s answer h. sym c.if-refused.false ∙ c.in_ok-refused.ensures s answer h)

pub returns-then-refused-clause-state : goal.returns-then-refused-clause-state
returns-then-refused-clause-state g c =
    refused_end c.args.state.now c.loop-command.state (drop c.loop-command.command-index c.args.commands.now)
    c.args.commands.now c.loop-command.invariant.0
    (λ s answer h. sym c.if-refused.true ∙ c.in_ok-refused.ensures s answer h)

pub returns-clause-state : goal.returns-clause-state
returns-clause-state g c =
    last_end c.args.state.now c.loop-command.state (drop c.loop-command.command-index c.args.commands.now)
    c.args.commands.now (drop_all c.loop-command.command-index c.args.commands.now c.loop-command-test.false)
    c.loop-command.invariant.0
