-- The precedence is a copy of the preamble's, into which the opening puts what is new.
use Rattle.std.proofs.Common.{◌∙◌}
use Rattle.std.proofs.lemmas.Result.{err_from_is_err_and}
use Rattle.larch_prove.proofs.Begins.{started_from, told_from}
use Rattle.larch_prove.proofs.beginning.start_work.Goals as goal

pub returns-in_err-first-clause-refused : goal.returns-in_err-first-clause-refused
returns-in_err-first-clause-refused c =
    let q = err_from_is_err_and c.from_residual-in_err-first.result c.from_residual-in_err-first.ensures.1 in
    rw (q.1, q.2)
    (told_from c.args.duty c.args.prepared.now _ _ (c.in_ok-precedence.ensures ∙ c.deref.ensures)
    c.in_err-first.ensures.refused)

pub returns-clause-started : goal.returns-clause-started
returns-clause-started c =
    started_from c.args.duty c.args.prepared.now c.args.claim.now c.in_ok-first.first _ _ _ _
    c.requires.prepared c.requires.claim (c.in_ok-precedence.ensures ∙ c.deref.ensures) c.in_ok-first.ensures.opened
    c.in_ok-work_from.ensures.store c.in_ok-work_from.ensures.draft c.in_ok-work_from.ensures.settings
