use Rattle.std.proofs.Common.{length}
use Rattle.larch_tables.proofs.spelling.+spelling_of.Given as goal

abbrev pub decreases-spelling_of : goal.decreases-spelling_of
decreases-spelling_of l = length l.codes.now
