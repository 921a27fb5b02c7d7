use Rattle.std.proofs.Common.{Some, bytes_eq, sym, ◌∙◌, ap}
use Rattle.std.specs.List.{list_all, list_any}
use Rattle.std.specs.Option.{option_map}
use Rattle.larch_term.specs.declared.statement.Statement.TheVariants.{Partitioned}
use Rattle.larch_verify_meaning.specs.ClauseRules.{own_operators, partitioned_by, shows_partitioned}
use Rattle.larch_verify_meaning.specs.Context.{find_closed}
use Rattle.larch_verify_history.specs.Past.{box_in, stated_in, history_of}
use Rattle.larch_verify_clause_rules.specs.Operators.{operators_in}
use Rattle.larch_verify_clause_rules.proofs.Clauses.{after_box, after_both, not_all, all_shown}
use Rattle.larch_verify_clause_rules.proofs.partitioned.judge_partitioned.Goals as goal

pub returns-in_default-clause-says : goal.returns-in_default-clause-says
returns-in_default-clause-says c =
    after_box (partitioned_by c.args.sort.now)
    (find_closed (history_of c.args.pool.now c.args.context.now.past.now) c.args.of_box)
    (own_operators c.args.context.now.theory.now c.args.operators.now) (c.in_default.ensures.known c.args.pool.now)

pub returns-then-not-take_sort-clause-says : goal.returns-then-not-take_sort-clause-says
returns-then-not-take_sort-clause-says c =
    after_both (partitioned_by c.args.sort.now)
    (find_closed (history_of c.args.pool.now c.args.context.now.past.now) c.args.of_box)
    (box_in c.args.pool.now c.in-Some.known.now, stated_in c.args.pool.now c.in-Some.stated.now)
    (own_operators c.args.context.now.theory.now c.args.operators.now)
    (operators_in c.in-Some-observers.observers.items) _
    (c.in-Some.ensures.known c.args.pool.now)
    (ap (option_map (λ ks. operators_in ks.items)) (sym c.in-Some-observers.is) ∙ c.in_ok-observers.ensures.says)
    (not_all (list_all (λ o. list_any (bytes_eq c.args.sort.now) o.domain)
    (operators_in c.in-Some-observers.observers.items))
    (shows_partitioned c.args.sort.now (operators_in c.in-Some-observers.observers.items)
    (box_in c.args.pool.now c.in-Some.known.now) (stated_in c.args.pool.now c.in-Some.stated.now))
    (Partitioned c.args.sort.now (operators_in c.in-Some-observers.observers.items))
    (sym (c.take_sort.ensures ∙ ap
    (λ ks. list_all (λ o. list_any (bytes_eq c.args.sort.now) o.domain) (operators_in ks)) c.deref.ensures.value)
    ∙ c.if-not-take_sort.true))

pub shows_partitioned-requires-clause-known : goal.shows_partitioned-requires-clause-known
shows_partitioned-requires-clause-known c = (c.in-Some.ensures.within c.args.pool.now c.requires.within).0

pub shows_partitioned-requires-clause-stated : goal.shows_partitioned-requires-clause-stated
shows_partitioned-requires-clause-stated c = (c.in-Some.ensures.within c.args.pool.now c.requires.within).1

pub returns-clause-says : goal.returns-clause-says
returns-clause-says c =
    after_both (partitioned_by c.args.sort.now)
    (find_closed (history_of c.args.pool.now c.args.context.now.past.now) c.args.of_box)
    (box_in c.args.pool.now c.in-Some.known.now, stated_in c.args.pool.now c.in-Some.stated.now)
    (own_operators c.args.context.now.theory.now c.args.operators.now)
    (operators_in c.in-Some-observers.observers.items) _
    (c.in-Some.ensures.known c.args.pool.now)
    (ap (option_map (λ ks. operators_in ks.items)) (sym c.in-Some-observers.is) ∙ c.in_ok-observers.ensures.says)
    (ap Some (ap (stated_in c.shows_partitioned.new.pool) c.in_ok-clause.ensures
    ∙ ap (λ ks. Partitioned c.args.sort.now (operators_in ks)) c.deref-3.ensures.value)
    ∙ all_shown (list_all (λ o. list_any (bytes_eq c.args.sort.now) o.domain)
    (operators_in c.in-Some-observers.observers.items))
    (shows_partitioned c.args.sort.now (operators_in c.in-Some-observers.observers.items)
    (box_in c.args.pool.now c.in-Some.known.now) (stated_in c.args.pool.now c.in-Some.stated.now))
    (Partitioned c.args.sort.now (operators_in c.in-Some-observers.observers.items))
    (sym (c.take_sort.ensures ∙ ap
    (λ ks. list_all (λ o. list_any (bytes_eq c.args.sort.now) o.domain) (operators_in ks)) c.deref.ensures.value)
    ∙ c.if-not-take_sort.false)
    (sym (c.in_ok-shows.ensures.says
    ∙ ap (λ ks. shows_partitioned c.args.sort.now (operators_in ks) (box_in c.args.pool.now c.in-Some.known.now)
    (stated_in c.args.pool.now c.in-Some.stated.now)) c.deref-2.ensures.value) ∙ c.if-not-shows.false))
