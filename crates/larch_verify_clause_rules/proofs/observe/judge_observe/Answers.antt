use Rattle.std.proofs.Common.{sym, ◌∙◌, ap}
use Rattle.std.specs.Option.{option_map}
use Rattle.larch_verify_meaning.specs.ClauseRules.{observed_equal}
use Rattle.larch_verify_meaning.specs.Context.{find_line, find_symbol}
use Rattle.larch_verify_meaning.specs.Decoding.{decode_equation}
use Rattle.larch_verify_history.specs.Past.{equated_in, history_of}
use Rattle.larch_verify_clause_rules.proofs.Clauses.{after_operators}
use Rattle.larch_verify_clause_rules.proofs.observe.judge_observe.Goals as goal

pub returns-in_default-line-clause-says : goal.returns-in_default-line-clause-says
returns-in_default-line-clause-says c =
    after_operators (observed_equal (history_of c.args.pool.now c.args.context.now.past.now) c.args.lines.now)
    (decode_equation (find_symbol c.args.context.now.theory.now
    (history_of c.args.pool.now c.args.context.now.past.now)) c.args.equation.now)
    (equated_in c.decode_equation.new.pool c.in-Some.sides)
    (find_line (history_of c.args.pool.now c.args.context.now.past.now) c.args.clause)
    (ap (option_map (equated_in c.decode_equation.new.pool)) (sym c.in-Some.is) ∙ c.in_ok-sides.ensures.says)
    (c.in_default-line.ensures.line c.args.pool.now)
