use Rattle.std.proofs.Common.{ap, sym, subst, ◌∙◌}
use Rattle.larch_grammar.specs.Machine.{final, word_frames}
use Rattle.larch_grammar.specs.declared.machine.State.TheVariants.{AfterWord, FirstWord}
use Rattle.larch_syntax_heads.specs.Outcome.{Settles, outcome, step_state}
use Rattle.larch_syntax.proofs.Defaults.{other_first}
use Rattle.larch_syntax.proofs.items.first_word.Goals as goal

pub returns-in_default : goal.returns-in_default
returns-in_default c =
    subst (Settles c.word_of_equation.result)
    (ap (λ waiting. step_state (AfterWord c.args.word (word_frames c.args.word waiting)) c.args.terminal)
    c.first_of_item.ensures
    ∙ ap (λ taking. outcome taking (final (FirstWord c.args.raw c.args.word)))
    (sym (other_first c.args.raw c.args.word c.args.terminal c.in_default.not-Generated c.in_default.not-Partitioned)))
    c.word_of_equation.ensures
