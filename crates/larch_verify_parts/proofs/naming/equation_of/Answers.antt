use Rattle.std.proofs.Common.{ap}
use Rattle.std.specs.Option.{option_and_then}
use Rattle.larch_verify_meaning.specs.BoxRules.{equation_alone}
use Rattle.larch_verify_parts.proofs.naming.equation_of.Goals as goal

pub returns-in_default-clause-says : goal.returns-in_default-clause-says
returns-in_default-clause-says c p = ap (option_and_then equation_alone) (c.in_default.ensures.line p)

pub returns-clause-within : goal.returns-clause-within
returns-clause-within c p h = c.sides_of.ensures.within p (c.in-Some.ensures.within p h)
