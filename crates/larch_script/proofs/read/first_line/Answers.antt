-- The first line ends before the end of the text, or there.
use Rattle.std.proofs.Common.{rules}
use Rattle.larch_script.proofs.Pieces.{cut_line, last_line}
use Rattle.larch_script.proofs.read.first_line.Goals as goal

pub returns-then-length-text : goal.returns-then-length-text
returns-then-length-text c =
    cut_line c.args.text.now c.line_length-length.result c.line_length-length.ensures.length (search rules)

pub returns-else-length-text : goal.returns-else-length-text
returns-else-length-text c =
    last_line c.args.text.now c.line_length-length.result c.line_length-length.ensures.length (search rules)
