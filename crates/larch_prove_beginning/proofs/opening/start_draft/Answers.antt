-- A builder at its start, and the lowest level on it.
use Rattle.std.proofs.Common.{refl}
use Rattle.std.proofs.lemmas.Result.{err_from_is_err_and}
use Rattle.larch_prove_beginning.proofs.Starting.{draft_started, starts_empty}
use Rattle.larch_prove_beginning.proofs.opening.start_draft.Goals as goal

pub start_level-requires-clause-start : goal.start_level-requires-clause-start
start_level-requires-clause-start c =
    starts_empty c.args.duty.now.whole.now c.in_ok-builder.builder c.in_ok-builder.ensures.empty
    (c.in_ok-builder.ensures.stands c.requires.words)

pub returns-clause-started : goal.returns-clause-started
returns-clause-started c =
    draft_started c.args.duty.now c.args.preamble.now c.args.precedence.now c.start_level.new.precedence
    c.start_level.new.store c.start_level.new.builder c.in_ok-started.started c.in_ok-started.ensures.started _
    c.draft_of-draft.ensures refl refl

pub returns-in_err-started-clause-refused : goal.returns-in_err-started-clause-refused
returns-in_err-started-clause-refused c =
    let q = err_from_is_err_and c.from_residual-in_err-started.result c.from_residual-in_err-started.ensures.1 in
    rw (q.1, q.2) c.in_err-started.ensures.refused
