use Rattle.larch_flat_meaning.proofs.Proper.{proper_keeps, renaming_fits, replacements_proper}
use Rattle.larch_flat_meaning.proofs.laws.no_operator_becomes_built_in.Goals as goal

pub returns-clause-fits : goal.returns-clause-fits
returns-clause-fits c = renaming_fits

pub returns-clause-keeps : goal.returns-clause-keeps
returns-clause-keeps c fs formals ref by e = proper_keeps by (replacements_proper fs formals ref by e).0

pub returns-clause-own : goal.returns-clause-own
returns-clause-own c fs formals ref by e = (replacements_proper fs formals ref by e).1
