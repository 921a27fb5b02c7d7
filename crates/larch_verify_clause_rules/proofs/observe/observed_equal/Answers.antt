use Rattle.std.proofs.Common.{List, map, All, bytes_eq, subst, sym, ◌∙◌, ap}
use Rattle.larch_calculus.specs.Observation.{observations_of}
use Rattle.larch_verify_meaning.specs.ClauseRules.{observed_equal, show_same}
use Rattle.larch_verify_pool.specs.Pooled.{Pooled, tree_in}
use Rattle.larch_verify_history.specs.Past.{equated_in, stated_in, history_of}
use Rattle.larch_verify_parts.proofs.Numbers.{tree_later}
use Rattle.larch_verify_clause_rules.specs.Observers.{observation_of, IsObserver}
use Rattle.larch_verify_clause_rules.specs.Operators.{IsKnown, operators_in}
use Rattle.larch_verify_clause_rules.specs.declared.known.Known.{Known}
use Rattle.larch_verify_clause_rules.specs.declared.observers.Observer.{Observer}
use Rattle.larch_verify_clause_rules.proofs.Others.{observed_told}
use Rattle.larch_verify_clause_rules.proofs.Paired.{not_false}
use Rattle.larch_verify_clause_rules.proofs.Staying.{history_later}
use Rattle.larch_verify_clause_rules.proofs.observe.observed_equal.Goals as goal

pub show_same-requires-clause-observers : goal.show_same-requires-clause-observers
show_same-requires-clause-observers c =
    subst (λ (os : List Observer). All (IsObserver c.intern_operators.new.pool) os)
    (sym c.deref-in-Partitions.ensures.value)
    (c.in_ok-observers-in-Partitions.ensures.known c.intern_operators.new.pool
    (subst (λ (ks : List Known). All (IsKnown c.intern_operators.new.pool) ks)
    (sym c.deref.ensures.value) c.in_ok-known-in-Partitions.ensures.known))

pub returns-in_ok-shown-in-Partitions-clause-says : goal.returns-in_ok-shown-in-Partitions-clause-says
returns-in_ok-shown-in-Partitions-clause-says c =
    let p : Pooled = c.args.pool.now in
    let q : Pooled = c.intern_operators.new.pool in
    ap (λ x. observed_equal (history_of p c.args.past.now) c.args.lines.now (equated_in p c.args.sides) (stated_in p x))
    c.in-Partitions.is
    ∙ observed_told (history_of p c.args.past.now) c.args.lines.now (tree_in p.trees c.args.sides.left)
    (tree_in p.trees c.args.sides.right) c.in-Partitions.sort c.in-Partitions.operators
    (map observation_of c.in_ok-observers-in-Partitions.observers.items) c.in_ok-shown-in-Partitions.shown
    ((λ i. bytes_eq (sym c.sort_of.ensures i) c.in-Partitions.sort)
    ∙ not_false (bytes_eq c.sort_of.result.now c.in-Partitions.sort) (sym c.ne.ensures ∙ c.if-ne.false))
    (c.in_ok-observers-in-Partitions.ensures.says
    ∙ ap (λ ks. observations_of c.in-Partitions.sort (operators_in ks)) c.deref.ensures.value
    ∙ ap (observations_of c.in-Partitions.sort) (c.in_ok-known-in-Partitions.ensures.says ∙ c.as_slice.ensures))
    (c.in_ok-shown-in-Partitions.ensures.says
    ∙ (λ i. show_same (history_later p q c.args.past.now c.in_ok-known-in-Partitions.ensures.grows c.requires.within i)
    (tree_later p q c.args.sides.left c.in_ok-known-in-Partitions.ensures.grows c.requires.sides.0 i)
    (tree_later p q c.args.sides.right c.in_ok-known-in-Partitions.ensures.grows c.requires.sides.1 i)
    (map observation_of (c.deref-in-Partitions.ensures.value i)) c.args.lines.now))
