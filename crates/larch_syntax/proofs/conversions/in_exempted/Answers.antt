use Rattle.std.proofs.Common.{Some, ap, sym, ◌∙◌}
use Rattle.larch_grammar.specs.Machine.{begin_conversion, close_conversion, with_exempted}
use Rattle.larch_grammar.specs.Terms.{formula_of}
use Rattle.larch_grammar.specs.declared.machine.Whole.TheVariants.{Trait as whole_trait}
use Rattle.larch_syntax_heads.specs.Outcome.{outcome as outcome_by}
use Rattle.larch_syntax.proofs.Defaults.{other_exempted_term}
use Rattle.larch_syntax.proofs.conversions.in_exempted.Goals as goal

pub returns-in-Ok-close_conversion : goal.returns-in-Ok-close_conversion
returns-in-Ok-close_conversion c = record {
  outcome = λ frames. c.begin_conversion.ensures.outcome
      ∙ ap (λ raw. outcome_by (begin_conversion raw c.args.terminal) (Some (whole_trait raw)))
      (c.in-Ok-close_conversion.ensures
      ∙ ap close_conversion (c.in-Ok.ensures ∙ ap (with_exempted c.args.conversion) c.formula_of.ensures))
      ∙ ap (λ taking. outcome_by taking
      (Some (whole_trait (close_conversion (with_exempted c.args.conversion (formula_of c.args.term c.args.pos))))))
      (sym (other_exempted_term (with_exempted c.args.conversion (formula_of c.args.term c.args.pos)) c.args.terminal
      c.in_default.not-Comma));
  frames = c.begin_conversion.ensures.frames;
}
