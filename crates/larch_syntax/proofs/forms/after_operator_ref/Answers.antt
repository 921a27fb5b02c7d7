use Rattle.std.proofs.Common.{ap, sym, subst, ◌∙◌}
use Rattle.larch_grammar.specs.Machine.{final}
use Rattle.larch_grammar.specs.declared.machine.State.TheVariants.{AfterOperatorRef, InItems}
use Rattle.larch_syntax_heads.specs.Outcome.{Settles, outcome, step_state}
use Rattle.larch_syntax.proofs.Defaults.{other_reference}
use Rattle.larch_syntax.proofs.forms.after_operator_ref.Goals as goal

pub returns-in-Ok : goal.returns-in-Ok
returns-in-Ok c =
    subst (Settles c.begin_item.result)
    (ap (λ raw. step_state (InItems raw) c.args.terminal) c.in-Ok.ensures
    ∙ ap (λ taking. outcome taking (final (AfterOperatorRef c.args.clause c.args.refs)))
    (sym (other_reference c.args.clause c.args.refs c.args.terminal c.in_default.not-Comma c.in_default.not-Semicolon)))
    c.begin_item.ensures
