use Rattle.std.proofs.Common.{◌≡◌, ◌<◌, length, arith}
use Rattle.larch_verify_history.specs.Past.{stated_in}
use Rattle.larch_verify_history.proofs.Staying.{stated_stays, stated_same}
use Rattle.larch_verify.proofs.Ends.{open_ends, nothing_ends, said_ends}
use Rattle.larch_verify.proofs.ending.ends_with.Goals as goal

pub returns-then-not-is_empty : goal.returns-then-not-is_empty
returns-then-not-is_empty c =
    let l : 0 < length c.args.past.now.levels.items = grind arith in
    open_ends c.args.pool.now c.args.past.now.events.items c.args.past.now.levels.items c.args.statement.now
    c.requires.levels l

pub returns-in_default : goal.returns-in_default
returns-in_default c =
    let l : length c.args.past.now.levels.items ≡ 0 = grind arith in
    nothing_ends c.args.pool.now c.args.past.now.events.items c.args.past.now.levels.items c.args.statement.now
    c.requires.levels l (c.in_default.ensures.says c.args.pool.now)

pub same_stated-requires-clause-other : goal.same_stated-requires-clause-other
same_stated-requires-clause-other c =
    stated_stays c.args.pool.now c.intern_statement.new.pool c.in-Some.last.now c.in_ok-wanted.ensures.grows
    (c.in-Some.ensures.within c.args.pool.now c.requires.within)

pub returns : goal.returns
returns c =
    let l : length c.args.past.now.levels.items ≡ 0 = grind arith in
    said_ends c.args.pool.now c.args.past.now.events.items c.args.past.now.levels.items c.args.statement.now
    (stated_in c.args.pool.now c.in-Some.last.now) (stated_in c.intern_statement.new.pool c.in_ok-wanted.wanted)
    (stated_in c.intern_statement.new.pool c.in-Some.last.now) c.same_stated.result
    c.requires.levels l (c.in-Some.ensures.says c.args.pool.now) c.in_ok-wanted.ensures.says
    (stated_same c.args.pool.now c.intern_statement.new.pool c.in-Some.last.now c.in_ok-wanted.ensures.grows
    (c.in-Some.ensures.within c.args.pool.now c.requires.within))
    c.same_stated.ensures
