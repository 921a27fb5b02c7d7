use Rattle.std.specs.Option.{option_map}
use Rattle.larch_verify_meaning.specs.Context.{find_closed}
use Rattle.larch_verify_history.specs.Past.{box_in, equated_in, history_of, stated_in}
use Rattle.larch_verify_box_rules.proofs.CaseSplits.{first_missing, second_missing, both_found}
use Rattle.larch_verify_box_rules.proofs.cases.judge_cases.Goals as goal

pub returns-in_default-clause-says : goal.returns-in_default-clause-says
returns-in_default-clause-says c =
    first_missing (find_closed (history_of c.args.pool.now c.args.context.now.past.now) c.args.first)
    (find_closed (history_of c.args.pool.now c.args.context.now.past.now) c.args.second)
    (c.in_default.ensures.known c.args.pool.now)

pub returns-in_default-closed_box-clause-says : goal.returns-in_default-closed_box-clause-says
returns-in_default-closed_box-clause-says c =
    second_missing (find_closed (history_of c.args.pool.now c.args.context.now.past.now) c.args.first)
    (find_closed (history_of c.args.pool.now c.args.context.now.past.now) c.args.second)
    (box_in c.args.pool.now c.in-Some.one.now, stated_in c.args.pool.now c.in-Some.shown.now)
    (c.in-Some.ensures.known c.args.pool.now) (c.in_default-closed_box.ensures.known c.args.pool.now)

pub cases_result-requires-clause-one : goal.cases_result-requires-clause-one
cases_result-requires-clause-one c = (c.in-Some.ensures.within c.args.pool.now c.requires.within).0

pub cases_result-requires-clause-shown : goal.cases_result-requires-clause-shown
cases_result-requires-clause-shown c = (c.in-Some.ensures.within c.args.pool.now c.requires.within).1

pub cases_result-requires-clause-other : goal.cases_result-requires-clause-other
cases_result-requires-clause-other c = (c.in-Some-closed_box.ensures.within c.args.pool.now c.requires.within).0

pub cases_result-requires-clause-other_shown : goal.cases_result-requires-clause-other_shown
cases_result-requires-clause-other_shown c = (c.in-Some-closed_box.ensures.within c.args.pool.now c.requires.within).1

pub returns-clause-says : goal.returns-clause-says
returns-clause-says c =
    both_found (find_closed (history_of c.args.pool.now c.args.context.now.past.now) c.args.first)
    (find_closed (history_of c.args.pool.now c.args.context.now.past.now) c.args.second)
    (box_in c.args.pool.now c.in-Some.one.now, stated_in c.args.pool.now c.in-Some.shown.now) (
      box_in c.args.pool.now c.in-Some-closed_box.other.now,
      stated_in c.args.pool.now c.in-Some-closed_box.other_shown.now,
    )
    (option_map (equated_in c.cases_result.new.pool) c.in_ok-made.made)
    (c.in-Some.ensures.known c.args.pool.now)
    (c.in-Some-closed_box.ensures.known c.args.pool.now) c.in_ok-made.ensures.says
