-- A step goes on, or is refused at the number of its command.
use Rattle.std.proofs.Common.{subst}
use Rattle.larch_prove.proofs.Located.{goes_on, going_now, never_refused, refused_here, same_state}
use Rattle.larch_prove.proofs.state.ProofState.step.Goals as goal
use Rattle.larch_prove_meaning.specs.Replays.{step}
use Rattle.larch_prove_beginning.specs.ProveSettingsTelling.{Tells}

pub unreachable-requires : goal.unreachable-requires
unreachable-requires g c =
    let r = c.requires.going in never_refused r.0 c.args.self.now r.1.0 r.1.1 c.in_default.not-Going

pub step-requires-clause-going : goal.step-requires-clause-going
step-requires-clause-going g c =
    let r = c.requires.going in
    (r.0, (r.1.0, going_now r.0 c.args.self.now.stage c.in-Going.going r.1.0 c.in-Going.is r.1.1))

pub returns-in-Ok-clause-stepped : goal.returns-in-Ok-clause-stepped
returns-in-Ok-clause-stepped g c = λ s p h.
    goes_on s c.step.new.self _ _
    (c.in-Ok.ensures.stepped s p (going_now s c.args.self.now.stage c.in-Going.going p c.in-Going.is h))

pub returns-in-Err-Wrong-clause-stepped : goal.returns-in-Err-Wrong-clause-stepped
returns-in-Err-Wrong-clause-stepped g c = λ s p h.
    let w = going_now s c.args.self.now.stage c.in-Going.going p c.in-Going.is h in
    refused_here s c.next_number.result c.in-Err-Wrong.code c.in-Going.going p _ c.next_number.ensures w.commands
    (subst (Tells (step c.args.command.now.kind p)) c.in-Err-Wrong.field-0-is (c.in-Err-Wrong.ensures.refused s p w))

pub returns-in-Err-Memory-clause-err : goal.returns-in-Err-Memory-clause-err
returns-in-Err-Memory-clause-err g c =
    same_state c.args.self.now c.in-Going.going c.step.new.self c.in-Going.is c.in-Err-Memory.ensures.err
