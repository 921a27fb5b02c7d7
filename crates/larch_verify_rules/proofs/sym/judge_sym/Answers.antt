use Rattle.std.proofs.Common.{refl}
use Rattle.larch_verify_meaning.specs.Context.{find_line}
use Rattle.larch_verify_meaning.specs.Rules.{exchange_sides}
use Rattle.larch_verify_history.specs.Past.{history_of}
use Rattle.larch_verify_parts.proofs.Alone.{by_nothing}
use Rattle.larch_verify_rules.proofs.sym.judge_sym.Goals as goal

pub returns-in_default-clause-says : goal.returns-in_default-clause-says
returns-in_default-clause-says c p =
    by_nothing exchange_sides (record { generated = λ s fs. refl; partitioned = λ s fs. refl })
    (find_line (history_of p c.args.past.now) c.args.line) (c.in_default.ensures.says p)
