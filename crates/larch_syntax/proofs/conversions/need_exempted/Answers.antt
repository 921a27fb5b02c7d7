use Rattle.std.proofs.Common.{None, [], ap, sym, subst, ◌∙◌}
use Rattle.larch_grammar.specs.Machine.{open_conversion}
use Rattle.larch_grammar.specs.declared.machine.State.TheVariants.{NeedFurtherExempted}
use Rattle.larch_syntax_heads.specs.Outcome.{Settles, outcome, step_state}
use Rattle.larch_syntax.proofs.Defaults.{other_exempted}
use Rattle.larch_syntax.proofs.conversions.need_exempted.Goals as goal

pub returns-in_default : goal.returns-in_default
returns-in_default c =
    subst (Settles c.begin_exempted.result)
    (ap (λ conversion. step_state (NeedFurtherExempted conversion) c.args.terminal)
    (c.open_conversion-conversion.ensures
    ∙ ap (λ variables. open_conversion c.args.raw c.args.refs variables []) c.new-in_default.ensures)
    ∙ ap (λ taking. outcome taking None)
    (sym (other_exempted c.args.raw c.args.refs c.args.terminal c.in_default.not-ForAll)))
    c.begin_exempted.ensures
