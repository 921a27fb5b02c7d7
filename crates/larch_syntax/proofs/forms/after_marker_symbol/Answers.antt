use Rattle.std.proofs.Common.{ap, sym, subst, ◌∙◌}
use Rattle.larch_grammar.specs.Machine.{final}
use Rattle.larch_grammar.specs.declared.machine.State.TheVariants.{AfterForm, AfterMarkerSymbol}
use Rattle.larch_syntax_heads.specs.Outcome.{Settles, outcome, step_state}
use Rattle.larch_syntax.proofs.FormDefaults.{other_marker_symbol}
use Rattle.larch_syntax.proofs.forms.after_marker_symbol.Goals as goal

pub returns-in-Ok-postfix_form : goal.returns-in-Ok-postfix_form
returns-in-Ok-postfix_form c =
    subst (Settles c.after_form.result)
    (ap (λ form. step_state (AfterForm c.args.naming form) c.args.terminal) c.in-Ok-postfix_form.ensures
    ∙ ap (λ taking. outcome taking (final (AfterMarkerSymbol c.args.naming c.args.pos c.args.symbol)))
    (sym (other_marker_symbol c.args.naming c.args.pos c.args.symbol c.args.terminal c.in_default.not-Marker)))
    c.after_form.ensures
