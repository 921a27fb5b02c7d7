-- Command by command.
use Rattle.std.proofs.Common.{◌≡◌, ap, arith, subst, sym, take, ◌∙◌, ◌++◌, ◌∷◌, [], ◌+◌}
use Rattle.std.proofs.lemmas.List.{append-nil, append_assoc, map-append, take_all}
use Rattle.larch_prove_meaning.specs.Scripts.{commands_of}
use Rattle.larch_script_commands.specs.declared.command.RawCommand.{RawCommand}
use Rattle.larch_session_trail.proofs.Exchange.{take_item}
use Rattle.larch_session_trail.proofs.trail.Trail.go_on.Goals as goal
use Rattle.larch_session_trail.specs.Trail.{IsTrailOf}

pub loop-command-init : goal.loop-command-init
loop-command-init g c = (
  (λ s answer block h. subst (λ cs. IsTrailOf s answer cs c.args.self.now) (sym (append-nil block)) h),
  (omega arith, (omega arith, omega arith)),
)

pub loop-command-preserved : goal.loop-command-preserved
loop-command-preserved g c =
    let i = c.loop-command.command-index in
    let told = c.in_ok-push_state.ensures in
    let taken = told.taken in
    let least = told.least in
    let most = told.most in
    let before = c.loop-command.invariant in
    let front = commands_of (take i c.args.commands.now) in
    let one : commands_of (take (i + 1) c.args.commands.now) ≡ front ++ c.command-item.result.kind ∷ [] =
    ap commands_of (take_item c.args.commands.now i c.command-item.result c.loop-command-test.true c.command-item.is)
    ∙ map-append (λ (x : RawCommand). x.kind) (take i c.args.commands.now) (c.command-item.result ∷ []) in
    let so_far = before.1.0 in
    let up = before.1.1.0 in
    let bound = before.1.1.1 in (
      (λ s answer block h. subst (λ cs. IsTrailOf s answer cs c.push_state.new.trail)
          (append_assoc block front (c.command-item.result.kind ∷ []) ∙ ap (λ cs. block ++ cs) (sym one))
          (told.states s answer (block ++ front) (before.0 s answer block h))),
      (omega (arith, taken, so_far), (omega (arith, least, up), omega (arith, most, bound))),
    )

pub push_state-requires-clause-some : goal.push_state-requires-clause-some
push_state-requires-clause-some g c =
    let some = c.requires.some in
    (some.0, (some.1.0, (_, c.loop-command.invariant.0 some.0 some.1.0 some.1.1.0 some.1.1.1)))

pub returns-clause-states : goal.returns-clause-states
returns-clause-states g c = λ s answer block h.
    subst (λ cs. IsTrailOf s answer (block ++ commands_of cs) c.loop-command.self)
    (take_all c.loop-command.command-index c.args.commands.now c.loop-command-test.false)
    (c.loop-command.invariant.0 s answer block h)
