use Rattle.std.proofs.Common.{ap, sym, ◌∙◌}
use Rattle.larch_grammar.specs.Machine.{final}
use Rattle.larch_grammar.specs.declared.machine.State.TheVariants.{AfterConstant, AfterHead}
use Rattle.larch_syntax_heads.specs.Outcome.{outcome, step_state}
use Rattle.larch_syntax_heads.proofs.Defaults.{other_constant}
use Rattle.larch_syntax_heads.proofs.shorthands.after_constant.Goals as goal

pub returns-in-Ok : goal.returns-in-Ok
returns-in-Ok c =
    c.after_head.ensures
    ∙ ap (λ raw. step_state (AfterHead raw) c.args.terminal) c.in-Ok.ensures
    ∙ ap (λ taking. outcome taking (final (AfterConstant c.args.raw c.args.sort c.args.constants)))
    (sym (other_constant c.args.raw c.args.sort c.args.constants c.args.terminal c.in_default.not-Comma))
