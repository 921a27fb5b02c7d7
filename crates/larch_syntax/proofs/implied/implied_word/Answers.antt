use Rattle.std.proofs.Common.{None, ap, sym, subst}
use Rattle.larch_syntax_heads.specs.Outcome.{Settles, outcome}
use Rattle.larch_syntax.proofs.Defaults.{other_implied}
use Rattle.larch_syntax.proofs.implied.implied_word.Goals as goal

pub returns-in_default : goal.returns-in_default
returns-in_default c =
    subst (Settles c.behind_word.result)
    (ap (λ taking. outcome taking None)
    (sym (other_implied c.args.raw c.args.word c.args.terminal c.in_default.not-Generated c.in_default.not-Partitioned
    c.in_default.not-Open)))
    c.behind_word.ensures
