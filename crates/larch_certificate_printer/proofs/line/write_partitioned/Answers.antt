-- A clause is written with its word.
use Rattle.larch_certificate_printer.proofs.line.write_partitioned.Goals as goal

pub returns : goal.returns
returns c = c.write_clause.ensures
