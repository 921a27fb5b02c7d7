use Rattle.std.proofs.Common.{map}
use Rattle.std.specs.Option.{option_map}
use Rattle.larch_verify_meaning.specs.Context.{find_closed}
use Rattle.larch_verify_meaning.specs.Matching.{variable_of}
use Rattle.larch_verify_history.specs.Past.{box_in, equated_in, history_of, stated_in}
use Rattle.larch_verify_box_rules.proofs.Freed.{no_box, of_box}
use Rattle.larch_verify_box_rules.proofs.fresh.judge_fresh.Goals as goal

pub returns-in_default-clause-says : goal.returns-in_default-clause-says
returns-in_default-clause-says c =
    no_box (find_closed (history_of c.args.pool.now c.args.context.now.past.now) c.args.of_box)
    (map variable_of c.args.variables.now)
    (c.in_default.ensures.known c.args.pool.now)

pub fresh_result-requires-clause-known : goal.fresh_result-requires-clause-known
fresh_result-requires-clause-known c = (c.in-Some.ensures.within c.args.pool.now c.requires.within).0

pub fresh_result-requires-clause-stated : goal.fresh_result-requires-clause-stated
fresh_result-requires-clause-stated c = (c.in-Some.ensures.within c.args.pool.now c.requires.within).1

pub returns-clause-says : goal.returns-clause-says
returns-clause-says c =
    of_box (find_closed (history_of c.args.pool.now c.args.context.now.past.now) c.args.of_box)
    (map variable_of c.args.variables.now)
    (box_in c.args.pool.now c.in-Some.known.now, stated_in c.args.pool.now c.in-Some.stated.now)
    (option_map (equated_in c.fresh_result.new.pool) c.in_ok-made.made)
    (c.in-Some.ensures.known c.args.pool.now) c.in_ok-made.ensures.says
