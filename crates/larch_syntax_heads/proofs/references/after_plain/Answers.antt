use Rattle.std.proofs.Common.{None, ap, sym, subst, ◌∙◌}
use Rattle.larch_grammar.specs.Machine.{after_actual, final}
use Rattle.larch_grammar.specs.declared.machine.Naming.TheVariants.{Actual}
use Rattle.larch_grammar.specs.declared.machine.State.TheVariants.{AfterForm}
use Rattle.larch_syntax_heads.specs.Outcome.{Settles, outcome}
use Rattle.larch_syntax_heads.proofs.Defaults.{other_plain}
use Rattle.larch_syntax_heads.proofs.references.after_plain.Goals as goal

pub returns-in-Ok : goal.returns-in-Ok
returns-in-Ok c =
    subst (Settles c.after_actual.result)
    (ap (λ reference. outcome (after_actual reference c.args.terminal) None) c.in-Ok.ensures
    ∙ ap (λ taking. outcome taking (final (AfterForm (Actual c.args.reference) c.args.form)))
    (sym (other_plain c.args.reference c.args.form c.args.terminal c.in_default.not-For)))
    c.after_actual.ensures
