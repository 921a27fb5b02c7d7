use Rattle.std.proofs.Common.{◌≡◌, ◌<◌, ◌++◌, [], length, get_or, sym, ◌∙◌, ap, subst, arith}
use Rattle.std.specs.Option.{option_map}
use Rattle.std.proofs.lemmas.Grind.{common_steps}
use Rattle.std.specs.Prelude.{IfSome}
use Rattle.larch_term.specs.Operator.{plain}
use Rattle.larch_verify_pool.specs.Pooled.{Pooled, tree_in}
use Rattle.larch_verify_pool.specs.Substitution.{AreVariables}
use Rattle.larch_verify_pool.proofs.Front.{grows_trans}
use Rattle.larch_verify_history.specs.Past.{equated_in, history_of}
use Rattle.larch_verify_history.proofs.Staying.{equated_stays}
use Rattle.larch_verify_clause_rules.specs.Observers.{IsObserver, some_unbound, variables_in}
use Rattle.larch_verify_clause_rules.specs.declared.observers.Observer.{Observer}
use Rattle.larch_verify_clause_rules.proofs.Shown.{show_unpaired, show_unsaid, show_unlike, show_said, shows_later}
use Rattle.larch_verify_clause_rules.proofs.Shown.{variables_more}
use Rattle.larch_verify_clause_rules.proofs.Staying.{observer_later}
use Rattle.larch_verify_clause_rules.proofs.observe.show_same.Goals as goal

-- what stands beyond the last one
some_observer : Observer
some_observer = record { operator = record { name = plain []; domain = []; range = [] }; number = 0; index = 0 }

pub returns-then-observers-lines-clause-says : goal.returns-then-observers-lines-clause-says
returns-then-observers-lines-clause-says c =
    show_unpaired (history_of c.args.pool.now c.args.past.now) (tree_in c.args.pool.now.trees c.args.sides.left)
    (tree_in c.args.pool.now.trees c.args.sides.right) c.args.observers.now c.args.lines.now
    c.if-observers-lines.true

pub returns-in_default-clause-says : goal.returns-in_default-clause-says
returns-in_default-clause-says c =
    let ln : c.loop-i.i < length c.args.lines.now = omega (arith, c.if-observers-lines.false, c.loop-i-test.true) in
    show_unsaid (history_of c.args.pool.now c.args.past.now) (tree_in c.args.pool.now.trees c.args.sides.left)
    (tree_in c.args.pool.now.trees c.args.sides.right) c.args.observers.now c.args.lines.now
    c.loop-i.i some_observer (variables_in c.loop-i.pool.trees c.loop-i.others.items) c.loop-i-test.true ln
    c.loop-i.invariant.left (c.in_default.ensures.says c.args.pool.now)

pub shows_same-requires-clause-said : goal.shows_same-requires-clause-said
shows_same-requires-clause-said c =
    equated_stays c.args.pool.now c.loop-i.pool c.in-Some.said c.loop-i.invariant.grows
    (c.in-Some.ensures.within c.args.pool.now c.requires.within)

pub shows_same-requires-clause-observer : goal.shows_same-requires-clause-observer
shows_same-requires-clause-observer c =
    observer_later c.args.pool.now c.loop-i.pool c.index-observers-i.result c.loop-i.invariant.grows
    (subst (IsObserver c.args.pool.now) (sym c.index-observers-i.is)
    (c.requires.observers c.loop-i.i c.index-observers-i.result c.loop-i-test.true))

pub returns-in_default-shown-clause-says : goal.returns-in_default-shown-clause-says
returns-in_default-shown-clause-says c =
    let ln : c.loop-i.i < length c.args.lines.now = omega (arith, c.if-observers-lines.false, c.loop-i-test.true) in
    show_unlike (history_of c.args.pool.now c.args.past.now) (tree_in c.args.pool.now.trees c.args.sides.left)
    (tree_in c.args.pool.now.trees c.args.sides.right) c.args.observers.now c.args.lines.now
    c.loop-i.i c.index-observers-i.result (variables_in c.loop-i.pool.trees c.loop-i.others.items)
    (equated_in c.args.pool.now c.in-Some.said) c.loop-i-test.true ln c.loop-i.invariant.left
    (c.in-Some.ensures.says c.args.pool.now)
    (shows_later c.args.pool.now c.loop-i.pool c.args.sides c.in-Some.said
    (get_or c.args.observers.now c.loop-i.i c.index-observers-i.result) c.index-observers-i.result
    (option_map (λ vs. variables_in c.shows_same.new.pool.trees vs.items) c.in_ok-shown.shown)
    c.loop-i.invariant.grows c.requires.sides
    (c.in-Some.ensures.within c.args.pool.now c.requires.within) c.index-observers-i.is c.in_ok-shown.ensures.says
    ∙ ap (λ o. some_unbound (tree_in c.args.pool.now.trees c.args.sides.left)
    (tree_in c.args.pool.now.trees c.args.sides.right)
    (option_map (λ vs. variables_in c.shows_same.new.pool.trees vs.items) o)) c.in_default-shown.is)

pub loop-i-preserved : goal.loop-i-preserved
loop-i-preserved c =
    let p : Pooled = c.args.pool.now in
    let o : Pooled = c.loop-i.pool in
    let q : Pooled = c.shows_same.new.pool in
    let ln : c.loop-i.i < length c.args.lines.now = omega (arith, c.if-observers-lines.false, c.loop-i-test.true) in
    let w : c.extend_from_slice.new.self.items ≡ c.loop-i.others.items ++ c.in-Some-shown.shown.items =
    grind (arith, common_steps) in
    let us : AreVariables q.trees c.in-Some-shown.shown.items =
    subst (λ x. IfSome x (λ vs. AreVariables q.trees vs.items)) c.in-Some-shown.is c.in_ok-shown.ensures.others in
    record {
      grows = grows_trans p o q c.loop-i.invariant.grows c.in_ok-shown.ensures.grows;
      others =
          variables_more o q c.loop-i.others.items c.in-Some-shown.shown.items c.extend_from_slice.new.self.items
          c.in_ok-shown.ensures.grows c.loop-i.invariant.others us w;
      left =
          show_said o q (history_of p c.args.past.now) (tree_in p.trees c.args.sides.left)
          (tree_in p.trees c.args.sides.right) c.args.observers.now c.args.lines.now c.loop-i.i
          c.index-observers-i.result
          c.loop-i.others.items c.in-Some-shown.shown.items c.extend_from_slice.new.self.items
          (equated_in p c.in-Some.said) c.loop-i-test.true ln c.in_ok-shown.ensures.grows
          c.loop-i.invariant.others w
          c.loop-i.invariant.left (c.in-Some.ensures.says p)
          (shows_later p o c.args.sides c.in-Some.said
          (get_or c.args.observers.now c.loop-i.i c.index-observers-i.result) c.index-observers-i.result
          (option_map (λ vs. variables_in q.trees vs.items) c.in_ok-shown.shown)
          c.loop-i.invariant.grows c.requires.sides
          (c.in-Some.ensures.within p c.requires.within) c.index-observers-i.is c.in_ok-shown.ensures.says
          ∙ ap (λ x. some_unbound (tree_in p.trees c.args.sides.left) (tree_in p.trees c.args.sides.right)
          (option_map (λ vs. variables_in q.trees vs.items) x)) c.in-Some-shown.is);
    }
