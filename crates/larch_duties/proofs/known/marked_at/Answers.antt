use Rattle.larch_duties.proofs.Places.{next_left, next_taken}
use Rattle.larch_duties.proofs.known.marked_at.Goals as goal

pub returns-clause-left : goal.returns-clause-left
returns-clause-left c =
    next_left c.args.marked.now c.args.index
    (record { statement = c.entry_at.result.0.now; assumed = c.entry_at.result.1 })
    c.requires.within c.entry_at.ensures

pub returns-clause-taken : goal.returns-clause-taken
returns-clause-taken c =
    next_taken c.args.marked.now c.args.index
    (record { statement = c.entry_at.result.0.now; assumed = c.entry_at.result.1 })
    c.requires.within c.entry_at.ensures
