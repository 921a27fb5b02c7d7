use Rattle.std.proofs.Common.{None, Some, if◌then◌else◌, sym, ◌∙◌, ap}
use Rattle.std.specs.Option.{option_and_then}
use Rattle.larch_verify_meaning.specs.BoxRules.{induct_over}
use Rattle.larch_verify_meaning.specs.Context.{find_line}
use Rattle.larch_verify_history.specs.Past.{equated_in, history_of, stated_in}
use Rattle.larch_verify_history.proofs.Staying.{equated_same}
use Rattle.larch_verify_box_rules.proofs.Generators.{no_generators, with_generators}
use Rattle.larch_verify_box_rules.proofs.induct.induct_over.Goals as goal

pub returns-in_default-clause-says : goal.returns-in_default-clause-says
returns-in_default-clause-says c =
    ap
    (option_and_then (induct_over (history_of c.args.pool.now c.args.context.now.past.now)
    c.args.inductive.now.variable.now c.args.boxes.now (equated_in c.args.pool.now c.args.inductive.now.sides)))
    (c.in_default.ensures.line c.args.pool.now)

pub returns-in_default-generators_of-clause-says : goal.returns-in_default-generators_of-clause-says
returns-in_default-generators_of-clause-says c =
    no_generators (history_of c.args.pool.now c.args.context.now.past.now) c.args.inductive.now.variable.now
    c.args.boxes.now (equated_in c.args.pool.now c.args.inductive.now.sides)
    (stated_in c.args.pool.now c.in-Some.stated.now)
    (find_line (history_of c.args.pool.now c.args.context.now.past.now) c.args.clause)
    (c.in-Some.ensures.line c.args.pool.now) (c.in_default-generators_of.ensures c.args.pool.now)

pub returns-then-not-shows-clause-says : goal.returns-then-not-shows-clause-says
returns-then-not-shows-clause-says c =
    with_generators (history_of c.args.pool.now c.args.context.now.past.now) c.args.inductive.now.variable.now
    c.args.boxes.now (equated_in c.args.pool.now c.args.inductive.now.sides)
    (stated_in c.args.pool.now c.in-Some.stated.now)
    (find_line (history_of c.args.pool.now c.args.context.now.past.now) c.args.clause)
    c.in-Some-generators_of.generators.now c.in_ok-shows.shows None
    (c.in-Some.ensures.line c.args.pool.now)
    (c.in-Some-generators_of.ensures c.args.pool.now) c.in_ok-shows.ensures.shows
    (sym (ap (λ b. if b then Some (equated_in c.args.pool.now c.args.inductive.now.sides) else None)
    c.if-not-shows.true))

pub returns-clause-says : goal.returns-clause-says
returns-clause-says c =
    with_generators (history_of c.args.pool.now c.args.context.now.past.now) c.args.inductive.now.variable.now
    c.args.boxes.now (equated_in c.args.pool.now c.args.inductive.now.sides)
    (stated_in c.args.pool.now c.in-Some.stated.now)
    (find_line (history_of c.args.pool.now c.args.context.now.past.now) c.args.clause)
    c.in-Some-generators_of.generators.now c.in_ok-shows.shows
    (Some (equated_in c.shows_all.new.pool c.args.inductive.now.sides))
    (c.in-Some.ensures.line c.args.pool.now)
    (c.in-Some-generators_of.ensures c.args.pool.now) c.in_ok-shows.ensures.shows
    (ap Some (equated_same c.args.pool.now c.shows_all.new.pool c.args.inductive.now.sides c.in_ok-shows.ensures.grows
    c.requires.inductive.1)
    ∙ sym (ap (λ b. if b then Some (equated_in c.args.pool.now c.args.inductive.now.sides) else None)
    c.if-not-shows.false))
