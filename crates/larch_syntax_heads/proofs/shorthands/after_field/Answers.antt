use Rattle.std.proofs.Common.{ap, sym, ◌∙◌}
use Rattle.larch_grammar.specs.Machine.{final}
use Rattle.larch_grammar.specs.declared.machine.State.TheVariants.{AfterField, AfterHead}
use Rattle.larch_syntax_heads.specs.Outcome.{outcome, step_state}
use Rattle.larch_syntax_heads.proofs.Defaults.{other_field}
use Rattle.larch_syntax_heads.proofs.shorthands.after_field.Goals as goal

pub returns-in-Ok : goal.returns-in-Ok
returns-in-Ok c =
    c.after_head.ensures
    ∙ ap (λ raw. step_state (AfterHead raw) c.args.terminal) c.in-Ok.ensures
    ∙ ap (λ taking. outcome taking (final (AfterField c.args.shorthand)))
    (sym (other_field c.args.shorthand c.args.terminal c.in_default.not-Comma))
