use Rattle.std.proofs.Common.{Some, sym, ◌∙◌, ap, subst}
use Rattle.std.specs.Option.{option_map}
use Rattle.std.specs.Prelude.{IfSome}
use Rattle.larch_verify_meaning.specs.Context.{find_symbol}
use Rattle.larch_verify_meaning.specs.Decoding.{decode_equation}
use Rattle.larch_verify_pool.proofs.Front.{grows_trans}
use Rattle.larch_verify_history.specs.Past.{IsEquated, equated_in, history_of}
use Rattle.larch_verify_history.proofs.Staying.{equated_same, equated_stays, history_same, past_stays}
use Rattle.larch_verify_box_rules.proofs.Generators.{of_equation}
use Rattle.larch_verify_box_rules.proofs.induct.judge_induct.Goals as goal

pub induct_over-requires-clause-past : goal.induct_over-requires-clause-past
induct_over-requires-clause-past c =
    past_stays c.args.context.now.theory.now c.args.pool.now c.decode_variable.new.pool
    c.args.context.now.past.now c.requires
    (grows_trans c.args.pool.now c.decode_equation.new.pool c.decode_variable.new.pool c.in_ok-sides.ensures.grows
    c.in_ok-number.ensures.grows)

pub induct_over-requires-clause-inductive : goal.induct_over-requires-clause-inductive
induct_over-requires-clause-inductive c = (
  c.in_ok-number.ensures.tree,
  equated_stays c.decode_equation.new.pool c.decode_variable.new.pool c.in-Some.sides c.in_ok-number.ensures.grows
      (subst (λ o. IfSome o (IsEquated c.decode_equation.new.pool)) c.in-Some.is c.in_ok-sides.ensures.within),
)

pub returns-clause-says : goal.returns-clause-says
returns-clause-says c =
    of_equation (history_of c.args.pool.now c.args.context.now.past.now)
    (history_of c.decode_variable.new.pool c.args.context.now.past.now)
    c.args.induction.now.variable.now c.args.boxes.now c.args.clause
    (equated_in c.decode_variable.new.pool c.in-Some.sides)
    (decode_equation (find_symbol c.args.context.now.theory.now
    (history_of c.args.pool.now c.args.context.now.past.now)) c.args.induction.now.equation.now)
    (option_map (equated_in c.induct_over.new.pool) c.in_ok-shown.shown)
    (history_same c.args.context.now.theory.now c.args.pool.now c.decode_variable.new.pool
    c.args.context.now.past.now c.requires
    (grows_trans c.args.pool.now c.decode_equation.new.pool c.decode_variable.new.pool c.in_ok-sides.ensures.grows
    c.in_ok-number.ensures.grows))
    (ap Some (equated_same c.decode_equation.new.pool c.decode_variable.new.pool c.in-Some.sides
    c.in_ok-number.ensures.grows
    (subst (λ o. IfSome o (IsEquated c.decode_equation.new.pool)) c.in-Some.is c.in_ok-sides.ensures.within))
    ∙ ap (option_map (equated_in c.decode_equation.new.pool)) (sym c.in-Some.is) ∙ c.in_ok-sides.ensures.says)
    c.in_ok-shown.ensures.says
