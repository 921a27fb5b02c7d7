use Rattle.larch_lexer.proofs.OneAnswer.{lexed_lexes, lexed_once, line_lexes, line_once}
use Rattle.larch_lexer.proofs.laws.one_lexing.Goals as goal

pub returns : goal.returns
returns c = record { computed = lexed_lexes; one = lexed_once; line = line_lexes; one_of_line = line_once }
