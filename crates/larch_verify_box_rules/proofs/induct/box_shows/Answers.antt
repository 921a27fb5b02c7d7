use Rattle.std.proofs.Common.{false, ap}
use Rattle.std.specs.Option.{option_map_or}
use Rattle.larch_verify_meaning.specs.BoxRules.{shows_case}
use Rattle.larch_verify_pool.specs.Pooled.{tree_in}
use Rattle.larch_verify_box_rules.proofs.induct.box_shows.Goals as goal

pub returns-in_default-clause-shows : goal.returns-in_default-clause-shows
returns-in_default-clause-shows c =
    ap
    (λ o. option_map_or (shows_case c.args.inductive.now.variable.now
    (tree_in c.args.pool.now.trees c.args.inductive.now.sides.left)
    (tree_in c.args.pool.now.trees c.args.inductive.now.sides.right) c.args.generator.now) o false)
    (c.in_default.ensures.known c.args.pool.now)

pub shows_case-requires-clause-known : goal.shows_case-requires-clause-known
shows_case-requires-clause-known c = (c.in-Some.ensures.within c.args.pool.now c.requires.past.within).0

pub shows_case-requires-clause-stated : goal.shows_case-requires-clause-stated
shows_case-requires-clause-stated c = (c.in-Some.ensures.within c.args.pool.now c.requires.past.within).1
