-- So many commands there are at most.
use Rattle.std.specs.Prelude.{◌<◌, ◌≤◌, refl}
use Rattle.std.proofs.Common.{subst}
use Rattle.std.proofs.lemmas.Result.{err_from_is_err_and}
use Rattle.larch_base.specs.declared.limits.TheConstants.{MAX_COMMANDS}
use Rattle.larch_prove.proofs.Reached.{counting, stepped_behind, works_counting}
use Rattle.larch_prove.proofs.Turns.{counted, full_refused, told_as}
use Rattle.larch_prove.proofs.going.Going.count_step.Goals as goal

pub returns-then-self-ge-MAX_COMMANDS-clause-refused : goal.returns-then-self-ge-MAX_COMMANDS-clause-refused
returns-then-self-ge-MAX_COMMANDS-clause-refused c = λ s p g.
    full_refused c.args.kind.now p c.requires.command
    (subst (λ n. MAX_COMMANDS ≤ n) g.commands c.if-self-ge-MAX_COMMANDS.true)

pub step_by_kind-requires-clause-claimed : goal.step_by_kind-requires-clause-claimed
step_by_kind-requires-clause-claimed c = c.requires.going.1.1.claimed

pub step_by_kind-requires-clause-works : goal.step_by_kind-requires-clause-works
step_by_kind-requires-clause-works c = (c.requires.going.1.0, c.requires.going.1.1.works)

pub returns-in_err-step_by_kind-clause-refused : goal.returns-in_err-step_by_kind-clause-refused
returns-in_err-step_by_kind-clause-refused c =
    let q = err_from_is_err_and c.from_residual.result
    c.from_residual.ensures.1 in
    rw (q.1, q.2) (λ s p g.
    told_as _ _ c.in_err-step_by_kind.field-0.0
    (counted c.args.kind.now p c.requires.command
    (subst (λ n. n < MAX_COMMANDS) g.commands c.if-self-ge-MAX_COMMANDS.false))
    (c.in_err-step_by_kind.ensures.refused (counting p) (works_counting c.args.self.now p g.works)))

pub returns-clause-stepped : goal.returns-clause-stepped
returns-clause-stepped c = λ s p g.
    stepped_behind s c.args.self.now c.step_by_kind.new.self c.args.kind.now _ p c.requires.command c.requires.worded
    c.if-self-ge-MAX_COMMANDS.false c.in_ok-step_by_kind.ensures.rest refl g
    (c.in_ok-step_by_kind.ensures.made (counting p) (works_counting c.args.self.now p g.works))
