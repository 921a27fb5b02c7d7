use Rattle.std.proofs.Common.{Some, bytes_eq, sym, ◌∙◌, ap}
use Rattle.std.specs.List.{list_all}
use Rattle.std.specs.Option.{option_map}
use Rattle.larch_term.specs.declared.statement.Statement.TheVariants.{Generated}
use Rattle.larch_verify_meaning.specs.ClauseRules.{own_operators, generated_by, shows_generated}
use Rattle.larch_verify_meaning.specs.Context.{find_closed}
use Rattle.larch_verify_history.specs.Past.{box_in, stated_in, history_of}
use Rattle.larch_verify_clause_rules.specs.Operators.{operators_in}
use Rattle.larch_verify_clause_rules.proofs.Clauses.{after_box, after_both, not_all, all_shown}
use Rattle.larch_verify_clause_rules.proofs.generated.judge_generated.Goals as goal

pub returns-in_default-clause-says : goal.returns-in_default-clause-says
returns-in_default-clause-says c =
    after_box (generated_by c.args.sort.now)
    (find_closed (history_of c.args.pool.now c.args.context.now.past.now) c.args.of_box)
    (own_operators c.args.context.now.theory.now c.args.operators.now) (c.in_default.ensures.known c.args.pool.now)

pub returns-then-not-have_range-clause-says : goal.returns-then-not-have_range-clause-says
returns-then-not-have_range-clause-says c =
    after_both (generated_by c.args.sort.now)
    (find_closed (history_of c.args.pool.now c.args.context.now.past.now) c.args.of_box)
    (box_in c.args.pool.now c.in-Some.known.now, stated_in c.args.pool.now c.in-Some.stated.now)
    (own_operators c.args.context.now.theory.now c.args.operators.now)
    (operators_in c.in-Some-generators.generators.items) _
    (c.in-Some.ensures.known c.args.pool.now)
    (ap (option_map (λ ks. operators_in ks.items)) (sym c.in-Some-generators.is) ∙ c.in_ok-generators.ensures.says)
    (not_all (list_all (λ f. bytes_eq f.range c.args.sort.now) (operators_in c.in-Some-generators.generators.items))
    (shows_generated c.args.sort.now (operators_in c.in-Some-generators.generators.items)
    (box_in c.args.pool.now c.in-Some.known.now) (stated_in c.args.pool.now c.in-Some.stated.now))
    (Generated c.args.sort.now (operators_in c.in-Some-generators.generators.items))
    (sym (c.have_range.ensures ∙ ap
    (λ ks. list_all (λ f. bytes_eq f.range c.args.sort.now) (operators_in ks)) c.deref.ensures.value)
    ∙ c.if-not-have_range.true))

pub shows_generated-requires-clause-known : goal.shows_generated-requires-clause-known
shows_generated-requires-clause-known c = (c.in-Some.ensures.within c.args.pool.now c.requires.within).0

pub shows_generated-requires-clause-stated : goal.shows_generated-requires-clause-stated
shows_generated-requires-clause-stated c = (c.in-Some.ensures.within c.args.pool.now c.requires.within).1

pub returns-clause-says : goal.returns-clause-says
returns-clause-says c =
    after_both (generated_by c.args.sort.now)
    (find_closed (history_of c.args.pool.now c.args.context.now.past.now) c.args.of_box)
    (box_in c.args.pool.now c.in-Some.known.now, stated_in c.args.pool.now c.in-Some.stated.now)
    (own_operators c.args.context.now.theory.now c.args.operators.now)
    (operators_in c.in-Some-generators.generators.items) _
    (c.in-Some.ensures.known c.args.pool.now)
    (ap (option_map (λ ks. operators_in ks.items)) (sym c.in-Some-generators.is) ∙ c.in_ok-generators.ensures.says)
    (ap Some (ap (stated_in c.shows_generated.new.pool) c.in_ok-clause.ensures
    ∙ ap (λ ks. Generated c.args.sort.now (operators_in ks)) c.deref-3.ensures.value)
    ∙ all_shown (list_all (λ f. bytes_eq f.range c.args.sort.now) (operators_in c.in-Some-generators.generators.items))
    (shows_generated c.args.sort.now (operators_in c.in-Some-generators.generators.items)
    (box_in c.args.pool.now c.in-Some.known.now) (stated_in c.args.pool.now c.in-Some.stated.now))
    (Generated c.args.sort.now (operators_in c.in-Some-generators.generators.items))
    (sym (c.have_range.ensures ∙ ap
    (λ ks. list_all (λ f. bytes_eq f.range c.args.sort.now) (operators_in ks)) c.deref.ensures.value)
    ∙ c.if-not-have_range.false)
    (sym (c.in_ok-shows.ensures.says
    ∙ ap (λ ks. shows_generated c.args.sort.now (operators_in ks) (box_in c.args.pool.now c.in-Some.known.now)
    (stated_in c.args.pool.now c.in-Some.stated.now)) c.deref-2.ensures.value) ∙ c.if-not-shows.false))
