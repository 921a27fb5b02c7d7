use Rattle.std.proofs.Common.{ap, sym, subst, ◌∙◌}
use Rattle.larch_grammar.specs.Machine.{final}
use Rattle.larch_grammar.specs.declared.machine.State.TheVariants.{AfterForm, AfterSymbolForm}
use Rattle.larch_syntax_heads.specs.Outcome.{Settles, outcome, step_state}
use Rattle.larch_syntax.proofs.FormDefaults.{other_symbol_form}
use Rattle.larch_syntax.proofs.forms.after_symbol_form.Goals as goal

pub returns-in-Ok-infix_form : goal.returns-in-Ok-infix_form
returns-in-Ok-infix_form c =
    subst (Settles c.after_form.result)
    (ap (λ form. step_state (AfterForm c.args.naming form) c.args.terminal) c.in-Ok-infix_form.ensures
    ∙ ap (λ taking. outcome taking (final (AfterSymbolForm c.args.naming c.args.symbol)))
    (sym (other_symbol_form c.args.naming c.args.symbol c.args.terminal c.in_default.not-Marker)))
    c.after_form.ensures
