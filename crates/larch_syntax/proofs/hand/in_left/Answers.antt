use Rattle.std.proofs.Common.{ap, sym, subst, ◌∙◌}
use Rattle.larch_grammar.specs.Machine.{end_equation, hand_equation}
use Rattle.larch_grammar.specs.Terms.{formula_of}
use Rattle.larch_syntax_heads.specs.Outcome.{Settles, outcome as outcome_by}
use Rattle.larch_syntax.proofs.Defaults.{other_left}
use Rattle.larch_syntax.proofs.hand.in_left.Goals as goal

pub returns-in_default : goal.returns-in_default
returns-in_default c = record {
  outcome = subst (Settles c.hand_equation.result)
      (ap (λ e. outcome_by (hand_equation e c.args.waiting c.args.terminal) (end_equation e c.args.waiting))
      c.formula_of.ensures
      ∙ ap (λ taking. outcome_by taking (end_equation (formula_of c.args.term c.args.pos) c.args.waiting))
      (sym (other_left c.args.term c.args.pos c.args.waiting c.args.stack c.args.terminal c.in_default.not-Equates)))
      c.hand_equation.ensures.outcome;
  frames = c.hand_equation.ensures.frames c.args.stack;
}
