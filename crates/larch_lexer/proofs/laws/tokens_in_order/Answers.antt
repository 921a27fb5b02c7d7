use Rattle.larch_lexer.proofs.Rises.{positions_rise, end_is_behind}
use Rattle.larch_lexer.proofs.Slices.{tokens_are_slices}
use Rattle.larch_lexer.proofs.laws.tokens_in_order.Goals as goal

pub returns : goal.returns
returns c = record { slices = tokens_are_slices; rising = positions_rise; end = end_is_behind }
