use Rattle.std.proofs.Common.{None, ap, sym, subst}
use Rattle.larch_syntax_heads.specs.Outcome.{Settles, outcome}
use Rattle.larch_syntax.proofs.Defaults.{other_group}
use Rattle.larch_syntax.proofs.items.after_group.Goals as goal

pub returns-in_default : goal.returns-in_default
returns-in_default c =
    subst (Settles c.begin_quantified.result)
    (ap (λ taking. outcome taking None)
    (sym (other_group c.args.scope c.args.variables c.args.terminal c.in_default.not-Comma)))
    c.begin_quantified.ensures
