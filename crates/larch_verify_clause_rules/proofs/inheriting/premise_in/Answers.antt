use Rattle.std.proofs.Common.{◌≡◌, ℕ, ◌+◌, true, get_or, map, drop, Some, bytes_eq, sym, ◌∙◌, ap}
use Rattle.std.specs.Option.{option_map}
use Rattle.larch_term.specs.Operator.{PlainOperator}
use Rattle.larch_term.specs.Sorts.{sort_of}
use Rattle.larch_calculus.specs.Formula.{apply_one}
use Rattle.larch_verify_pool.specs.Pooled.{Pooled, operator_in, tree_in}
use Rattle.larch_verify_pool.proofs.Front.{grows_trans}
use Rattle.larch_verify_parts.proofs.Numbers.{tree_later, has_tree, has_within}
use Rattle.larch_verify_clause_rules.specs.Inheriting.{holding_of, with_term, with_terms}
use Rattle.larch_verify_clause_rules.proofs.Paired.{not_false}
use Rattle.larch_verify_clause_rules.proofs.Premises.{holding_yes}
use Rattle.larch_verify_clause_rules.proofs.Staying.{operator_later}
use Rattle.larch_verify_clause_rules.proofs.inheriting.premise_in.Goals as goal

pub loop-i-preserved : goal.loop-i-preserved
loop-i-preserved c =
    let p : Pooled = c.args.pool.now in
    let o : Pooled = c.loop-i.pool in
    let q : Pooled = c.join_premise.new.pool in
    let n : ℕ = get_or c.args.terms.now c.loop-i.i 0 in
    let f : PlainOperator = operator_in p.operators c.args.predicate in
    let t : tree_in o.trees n ≡ tree_in p.trees n =
    tree_later p o n c.loop-i.invariant.grows (c.requires.terms c.loop-i.i 0 c.loop-i-test.true) in
    let y : bytes_eq c.sort_of.result.now c.args.sort.now ≡ true =
    not_false (bytes_eq c.sort_of.result.now c.args.sort.now) (sym c.ne.ensures ∙ c.if-ne.false) in
    let z : bytes_eq (sort_of (tree_in p.trees n)) c.args.sort.now ≡ true =
    (λ i. bytes_eq ((ap sort_of (sym t) ∙ sym c.sort_of.ensures) i) c.args.sort.now) ∙ y in
    let w : tree_in q.trees c.in_ok-joined.joined
    ≡ with_term (option_map (tree_in o.trees) c.loop-i.premise) (apply_one f (tree_in p.trees n)) =
    has_tree q c.in_ok-joined.joined
    (with_term (option_map (tree_in o.trees) c.loop-i.premise)
    (apply_one (operator_in o.operators c.args.predicate) (tree_in o.trees n))) c.in_ok-joined.ensures.tree
    ∙ (λ i. with_term (option_map (tree_in o.trees) c.loop-i.premise)
    (apply_one (operator_later p o c.args.predicate c.loop-i.invariant.grows c.requires.predicate i) (t i))) in
    record {
      grows = grows_trans p o q c.loop-i.invariant.grows c.in_ok-joined.ensures.grows;
      within =
          has_within q c.in_ok-joined.joined
          (with_term (option_map (tree_in o.trees) c.loop-i.premise)
          (apply_one (operator_in o.operators c.args.predicate) (tree_in o.trees n))) c.in_ok-joined.ensures.tree;
      left =
          (λ i. with_terms (Some (w i)) (holding_of f c.args.sort.now
          (map (tree_in p.trees) (drop (c.loop-i.i + 1) c.args.terms.now))))
          ∙ sym (holding_yes (tree_in p.trees) f c.args.sort.now c.args.terms.now c.loop-i.i 0
          (option_map (tree_in o.trees) c.loop-i.premise) c.loop-i-test.true z)
          ∙ c.loop-i.invariant.left;
    }
