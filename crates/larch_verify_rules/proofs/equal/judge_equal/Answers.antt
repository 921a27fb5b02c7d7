use Rattle.std.proofs.Common.{refl}
use Rattle.larch_verify_meaning.specs.Context.{find_line}
use Rattle.larch_verify_meaning.specs.Rules.{stated_equal}
use Rattle.larch_verify_history.specs.Past.{history_of}
use Rattle.larch_verify_parts.proofs.Alone.{by_nothing}
use Rattle.larch_verify_rules.proofs.equal.judge_equal.Goals as goal

pub returns-in_default-clause-says : goal.returns-in_default-clause-says
returns-in_default-clause-says c =
    by_nothing stated_equal (record { generated = λ s fs. refl; partitioned = λ s fs. refl })
    (find_line (history_of c.args.pool.now c.args.context.now.past.now) c.args.line)
    (c.in_default.ensures.says c.args.pool.now)
