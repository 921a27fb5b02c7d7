use Rattle.std.proofs.Common.{◌∙◌, ap}
use Rattle.larch_flat_meaning.specs.Gathered.{statements_in}
use Rattle.larch_flat_statements.proofs.Entries.{keys_stated}
use Rattle.larch_flat_statements.proofs.marked.MarkedStatements.into_statements.Goals as goal

pub returns : goal.returns
returns c = c.in_ok-statements.ensures ∙ keys_stated c.self.inside.entries.entries ∙ ap statements_in c.self.view_is
