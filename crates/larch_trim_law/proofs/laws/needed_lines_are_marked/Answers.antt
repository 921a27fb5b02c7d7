use Rattle.std.proofs.Common.{length}
use Rattle.larch_trim_meaning.specs.Needed.{needs}
use Rattle.larch_trim_law.proofs.Marks.{marked_reached, reached_marked}
use Rattle.larch_trim_law.proofs.laws.needed_lines_are_marked.Goals as goal

pub returns : goal.returns
returns c lines n =
    (marked_reached (needs lines) (length lines) n, reached_marked (needs lines) (length lines) n)
