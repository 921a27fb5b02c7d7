use Rattle.larch_prove_meaning.proofs.NewConstants.{plan_constants, plan_names_differ, plan_names_free}
use Rattle.larch_prove_meaning.proofs.laws.plans_make_new_constants.Goals as goal

pub returns-clause-constants : goal.returns-clause-constants
returns-clause-constants c setting whole method made e = plan_constants setting whole method made e

pub returns-clause-free : goal.returns-clause-free
returns-clause-free c setting whole method made e = plan_names_free setting whole method made e

pub returns-clause-different : goal.returns-clause-different
returns-clause-different c setting whole method made e = plan_names_differ setting whole method made e
