use Rattle.larch_rewrite_law.proofs.Rising.{waiting_limit, waiting_size, waiting_argument, waiting_form}
use Rattle.larch_rewrite_law.proofs.waiting.waiting_ends.Goals as goal

pub returns-clause-limit : goal.returns-clause-limit
returns-clause-limit c rules whole t budget b ws h e = waiting_limit rules whole t budget b ws h e

pub returns-clause-size : goal.returns-clause-size
returns-clause-size c rules whole t budget b ws h e = waiting_size rules whole t budget b ws h e

pub returns-clause-argument : goal.returns-clause-argument
returns-clause-argument c rules whole t u budget b r w ws h e = waiting_argument rules whole t u budget b r w ws h e

pub returns-clause-form : goal.returns-clause-form
returns-clause-form c rules whole t u budget b r h e = waiting_form rules whole t u budget b r h e
