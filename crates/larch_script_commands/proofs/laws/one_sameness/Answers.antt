use Rattle.larch_script_commands.proofs.Decided.{kind_Decides, kinds_Decide}
use Rattle.larch_script_commands.proofs.laws.one_sameness.Goals as goal

pub returns-clause-kinds : goal.returns-clause-kinds
returns-clause-kinds c k d = kind_Decides k d

pub returns-clause-lists : goal.returns-clause-lists
returns-clause-lists c ks ds = kinds_Decide ks ds
