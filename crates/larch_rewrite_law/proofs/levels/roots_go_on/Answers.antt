use Rattle.larch_rewrite_law.proofs.Turns.{root_large, root_normal, root_limit, root_made}
use Rattle.larch_rewrite_law.proofs.levels.roots_go_on.Goals as goal

pub returns-clause-large : goal.returns-clause-large
returns-clause-large c rules t b h = root_large rules t b h

pub returns-clause-normal : goal.returns-clause-normal
returns-clause-normal c rules t b h e = root_normal rules t b h e

pub returns-clause-limit : goal.returns-clause-limit
returns-clause-limit c rules t u h e = root_limit rules t u h e

pub returns-clause-made : goal.returns-clause-made
returns-clause-made c rules t u b h e = root_made rules t u b h e
