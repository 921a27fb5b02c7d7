use Rattle.larch_derive.proofs.Growth.{extends_trans}
use Rattle.larch_prove_adding.proofs.Staying.{said_stays}
use Rattle.larch_prove_opening.proofs.statements.add_statement.Goals as goal

pub add-requires-clause-said : goal.add-requires-clause-said
add-requires-clause-said c = said_stays _ _ _ c.in_ok-equation.ensures.extends c.requires.said

pub returns-clause-extends : goal.returns-clause-extends
returns-clause-extends c = extends_trans _ _ _ c.in_ok-equation.ensures.extends c.add.ensures.extends
