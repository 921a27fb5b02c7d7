use Rattle.larch_main_files.proofs.Theories.{next_taken}
use Rattle.larch_main_files.proofs.theory.marked_at.Goals as goal

pub returns : goal.returns
returns c =
    next_taken c.args.marked.now c.args.index
    (record { statement = c.entry_at.result.0.now; assumed = c.entry_at.result.1 })
    c.requires c.entry_at.ensures
