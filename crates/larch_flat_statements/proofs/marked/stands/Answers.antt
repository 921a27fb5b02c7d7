use Rattle.std.proofs.Common.{◌∙◌}
use Rattle.larch_flat_statements.proofs.Entries.{found_stands}
use Rattle.larch_flat_statements.proofs.marked.stands.Goals as goal

pub returns : goal.returns
returns c = c.contains_key.ensures ∙ found_stands c.args.statement.now c.args.entries.now.entries
