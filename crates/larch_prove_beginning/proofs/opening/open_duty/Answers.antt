-- The draft, and then what it leads to that its goal is proved.
use Rattle.std.proofs.lemmas.Result.{err_from_is_err_and}
use Rattle.larch_prove_beginning.proofs.Leading.{first_led, opening_refused, settling_refused, stands_so}
use Rattle.larch_prove_beginning.proofs.Starting.{provable}
use Rattle.larch_prove_beginning.proofs.opening.open_duty.Goals as goal
use Rattle.larch_store.proofs.Growth.{grows_trans}

pub returns-in_err-first-clause-refused : goal.returns-in_err-first-clause-refused
returns-in_err-first-clause-refused c =
    let q = err_from_is_err_and c.from_residual.result c.from_residual.ensures.1 in
    rw (q.1, q.2) (λ p u.
    opening_refused c.args.duty.now c.args.preamble.now c.args.precedence.now p u c.in_err-first.field-0.0
    c.in_err-first.ensures.refused)

pub settle_first-requires-clause-provable : goal.settle_first-requires-clause-provable
settle_first-requires-clause-provable c = provable c.args.duty.now c.requires

pub settle_first-requires-clause-stands : goal.settle_first-requires-clause-stands
settle_first-requires-clause-stands c =
    stands_so c.args.duty.now c.args.preamble.now c.args.precedence.now c.start_draft.new.precedence
    c.start_draft.new.store c.in_ok-first.first c.requires c.in_ok-first.ensures.started

pub returns-in_err-settle_first-clause-refused : goal.returns-in_err-settle_first-clause-refused
returns-in_err-settle_first-clause-refused c =
    let q = err_from_is_err_and c.from_residual-in_err-settle_first.result
    c.from_residual-in_err-settle_first.ensures.1 in
    rw (q.1, q.2) (λ p u.
    settling_refused c.args.duty.now c.args.preamble.now c.args.precedence.now c.start_draft.new.precedence
    c.start_draft.new.store c.in_ok-first.first c.requires c.in_ok-first.ensures.started p
    c.in_err-settle_first.field-0.0 u c.in_err-settle_first.ensures.refused)

pub returns-in_err-settle_first-clause-grows : goal.returns-in_err-settle_first-clause-grows
returns-in_err-settle_first-clause-grows c =
    grows_trans _ _ _ c.in_ok-first.ensures.grows c.in_err-settle_first.ensures.grows

pub returns-clause-opened : goal.returns-clause-opened
returns-clause-opened c =
    first_led c.args.duty.now c.args.preamble.now c.args.precedence.now c.start_draft.new.precedence
    c.start_draft.new.store c.in_ok-first.first c.requires c.in_ok-first.ensures.started c.settle_first.new.store
    c.settle_first.new.draft c.in_ok-settle_first.ensures.settled

pub returns-clause-grows : goal.returns-clause-grows
returns-clause-grows c = grows_trans _ _ _ c.in_ok-first.ensures.grows c.in_ok-settle_first.ensures.grows
