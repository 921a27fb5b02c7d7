use Rattle.std.proofs.Common.{ap, sym, subst}
use Rattle.larch_grammar.specs.Machine.{final}
use Rattle.larch_grammar.specs.declared.machine.State.TheVariants.{WordBehind}
use Rattle.larch_syntax_heads.specs.Outcome.{Settles, outcome}
use Rattle.larch_syntax.proofs.Defaults.{other_behind}
use Rattle.larch_syntax.proofs.items.word_behind.Goals as goal

pub returns-in_default : goal.returns-in_default
returns-in_default c =
    subst (Settles c.word_of_equation.result)
    (ap (λ taking. outcome taking (final (WordBehind c.args.item c.args.word)))
    (sym (other_behind c.args.item.raw c.args.item.variables c.args.item.equations c.args.word c.args.terminal
    c.in_default.not-Generated c.in_default.not-Partitioned)))
    c.word_of_equation.ensures
