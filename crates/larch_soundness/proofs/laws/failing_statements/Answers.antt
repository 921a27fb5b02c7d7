use Rattle.larch_soundness.proofs.FirstFailing.{first_one_fails, none_fails_where_all_hold}
use Rattle.larch_soundness.proofs.laws.failing_statements.Goals as goal

pub returns : goal.returns
returns c = record { none = none_fails_where_all_hold; some = first_one_fails }
