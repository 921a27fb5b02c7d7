use Rattle.std.proofs.Common.{refl}
use Rattle.larch_rewrite_law.proofs.Turns.{argument_made, argument_limit, argument_size}
use Rattle.larch_rewrite_law.proofs.levels.arguments_go_on.Goals as goal

pub returns-clause-made : goal.returns-clause-made
returns-clause-made c rules f done ts t u b r h = argument_made rules f done ts t u b r h

pub returns-clause-limit : goal.returns-clause-limit
returns-clause-limit c rules f done ts t b h = argument_limit rules f done ts t b h

pub returns-clause-size : goal.returns-clause-size
returns-clause-size c rules f done ts t b h = argument_size rules f done ts t b h

pub returns-clause-ended : goal.returns-clause-ended
returns-clause-ended c rules f done b = refl
