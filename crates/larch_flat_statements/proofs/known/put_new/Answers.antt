use Rattle.larch_flat_statements.proofs.Entries.{stated_told}
use Rattle.larch_flat_statements.proofs.known.put_new.Goals as goal

pub returns : goal.returns
returns c = stated_told c.args.statement c.args.found.now.keys c.insert.new.self.keys c.in_ok-insert.ensures.keys
