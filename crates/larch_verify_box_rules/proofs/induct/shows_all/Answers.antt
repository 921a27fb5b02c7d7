use Rattle.std.proofs.Common.{◌+◌, ◌<◌, drop, length, sym, ◌∙◌, arith}
use Rattle.larch_base.proofs.Bools.{and_known_left, and_not_left}
use Rattle.larch_verify_meaning.specs.BoxRules.{shows_cases}
use Rattle.larch_verify_pool.specs.Pooled.{tree_in}
use Rattle.larch_verify_pool.proofs.Front.{grows_trans}
use Rattle.larch_verify_history.specs.Past.{equated_in, history_of}
use Rattle.larch_verify_history.proofs.Staying.{history_same, past_stays}
use Rattle.larch_verify_parts.proofs.Numbers.{tree_later}
use Rattle.larch_verify_box_rules.proofs.Generators.{counts_differ, step_shows}
use Rattle.larch_verify_box_rules.proofs.Supposed.{inductive_later}
use Rattle.larch_verify_box_rules.proofs.induct.shows_all.Goals as goal

pub returns-then-generators-boxes-clause-shows : goal.returns-then-generators-boxes-clause-shows
returns-then-generators-boxes-clause-shows c =
    counts_differ (history_of c.args.pool.now c.args.context.now.past.now) c.args.inductive.now.variable.now
    (tree_in c.args.pool.now.trees c.args.inductive.now.sides.left)
    (tree_in c.args.pool.now.trees c.args.inductive.now.sides.right) c.args.generators.now c.args.boxes.now
    c.if-generators-boxes.true

pub box_shows-requires-clause-past : goal.box_shows-requires-clause-past
box_shows-requires-clause-past c =
    past_stays c.args.context.now.theory.now c.args.pool.now c.loop-i.pool c.args.context.now.past.now c.requires.past
    c.loop-i.invariant.grows

pub box_shows-requires-clause-inductive : goal.box_shows-requires-clause-inductive
box_shows-requires-clause-inductive c =
    inductive_later c.args.pool.now c.loop-i.pool c.args.inductive.now c.loop-i.invariant.grows c.requires.inductive

pub returns-then-not-shows-clause-shows : goal.returns-then-not-shows-clause-shows
returns-then-not-shows-clause-shows c =
    let b : c.loop-i.i < length c.args.boxes.now = omega (arith, c.loop-i-test.true, c.if-generators-boxes.false) in
    sym (and_not_left c.in_ok-shows.shows
    (shows_cases (history_of c.args.pool.now c.args.context.now.past.now) c.args.inductive.now.variable.now
    (equated_in c.args.pool.now c.args.inductive.now.sides)
    (drop (c.loop-i.i + 1) c.args.generators.now) (drop (c.loop-i.i + 1) c.args.boxes.now)) c.if-not-shows.true)
    ∙ sym (step_shows (history_of c.args.pool.now c.args.context.now.past.now)
    (history_of c.loop-i.pool c.args.context.now.past.now) c.args.inductive.now.variable.now
    (tree_in c.args.pool.now.trees c.args.inductive.now.sides.left)
    (tree_in c.args.pool.now.trees c.args.inductive.now.sides.right)
    (tree_in c.loop-i.pool.trees c.args.inductive.now.sides.left)
    (tree_in c.loop-i.pool.trees c.args.inductive.now.sides.right)
    c.args.generators.now c.args.boxes.now c.loop-i.i 0 c.index-generators-i.result c.in_ok-shows.shows
    c.loop-i-test.true b c.index-generators-i.is
    (history_same c.args.context.now.theory.now c.args.pool.now c.loop-i.pool c.args.context.now.past.now
    c.requires.past c.loop-i.invariant.grows)
    (tree_later c.args.pool.now c.loop-i.pool c.args.inductive.now.sides.left c.loop-i.invariant.grows
    c.requires.inductive.1.0)
    (tree_later c.args.pool.now c.loop-i.pool c.args.inductive.now.sides.right c.loop-i.invariant.grows
    c.requires.inductive.1.1)
    c.in_ok-shows.ensures.shows)
    ∙ c.loop-i.invariant.rest

pub loop-i-preserved : goal.loop-i-preserved
loop-i-preserved c =
    let b : c.loop-i.i < length c.args.boxes.now = omega (arith, c.loop-i-test.true, c.if-generators-boxes.false) in
    record {
      grows =
          grows_trans c.args.pool.now c.loop-i.pool c.box_shows.new.pool c.loop-i.invariant.grows
          c.in_ok-shows.ensures.grows;
      rest = sym (and_known_left c.in_ok-shows.shows
          (shows_cases (history_of c.args.pool.now c.args.context.now.past.now) c.args.inductive.now.variable.now
          (equated_in c.args.pool.now c.args.inductive.now.sides)
          (drop (c.loop-i.i + 1) c.args.generators.now) (drop (c.loop-i.i + 1) c.args.boxes.now)) c.if-not-shows.false)
          ∙ sym (step_shows (history_of c.args.pool.now c.args.context.now.past.now)
          (history_of c.loop-i.pool c.args.context.now.past.now) c.args.inductive.now.variable.now
          (tree_in c.args.pool.now.trees c.args.inductive.now.sides.left)
          (tree_in c.args.pool.now.trees c.args.inductive.now.sides.right)
          (tree_in c.loop-i.pool.trees c.args.inductive.now.sides.left)
          (tree_in c.loop-i.pool.trees c.args.inductive.now.sides.right)
          c.args.generators.now c.args.boxes.now c.loop-i.i 0 c.index-generators-i.result c.in_ok-shows.shows
          c.loop-i-test.true b c.index-generators-i.is
          (history_same c.args.context.now.theory.now c.args.pool.now c.loop-i.pool c.args.context.now.past.now
          c.requires.past c.loop-i.invariant.grows)
          (tree_later c.args.pool.now c.loop-i.pool c.args.inductive.now.sides.left c.loop-i.invariant.grows
          c.requires.inductive.1.0)
          (tree_later c.args.pool.now c.loop-i.pool c.args.inductive.now.sides.right c.loop-i.invariant.grows
          c.requires.inductive.1.1)
          c.in_ok-shows.ensures.shows)
          ∙ c.loop-i.invariant.rest;
    }
