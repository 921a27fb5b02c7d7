use Rattle.larch_term.specs.Truth.{truth}
use Rattle.larch_calculus.specs.Formula.{falsity}
use Rattle.larch_verify_pool.specs.Pooled.{Grows, tree_in}
use Rattle.larch_verify_pool.proofs.Front.{grows_trans}
use Rattle.larch_verify_history.specs.Past.{box_in}
use Rattle.larch_verify_history.proofs.Staying.{box_same}
use Rattle.larch_verify_parts.proofs.Numbers.{has_tree, has_tree_later, tree_later}
use Rattle.larch_verify_box_rules.proofs.CaseSplits.{supposes_same, both_suppose, first_fails}
use Rattle.larch_verify_box_rules.proofs.cases.are_cases.Goals as goal

pub returns-then-supposes-clause-cases : goal.returns-then-supposes-clause-cases
returns-then-supposes-clause-cases c =
    let g : Grows c.args.pool.now c.falsity_in.new.pool =
    grows_trans c.args.pool.now c.truth_in.new.pool c.falsity_in.new.pool c.in_ok-truth.ensures.grows
    c.in_ok-falsity.ensures.grows in
    both_suppose (box_in c.args.pool.now c.args.one.now) (box_in c.args.pool.now c.args.other.now)
    (tree_in c.args.pool.now.trees c.args.formula)
    c.supposes.result c.supposes-then-supposes.result
    (supposes_same (box_in c.falsity_in.new.pool c.args.one.now) (box_in c.args.pool.now c.args.one.now)
    (tree_in c.falsity_in.new.pool.trees c.args.formula) (tree_in c.args.pool.now.trees c.args.formula)
    (tree_in c.falsity_in.new.pool.trees c.in_ok-truth.truth) truth c.supposes.result c.supposes.ensures
    (box_same c.args.pool.now c.falsity_in.new.pool c.args.one.now g c.requires.one)
    (tree_later c.args.pool.now c.falsity_in.new.pool c.args.formula g c.requires.formula)
    (has_tree_later c.truth_in.new.pool c.falsity_in.new.pool c.in_ok-truth.truth truth c.in_ok-falsity.ensures.grows
    c.in_ok-truth.ensures.tree))
    c.if-supposes.true
    (supposes_same (box_in c.falsity_in.new.pool c.args.other.now) (box_in c.args.pool.now c.args.other.now)
    (tree_in c.falsity_in.new.pool.trees c.args.formula) (tree_in c.args.pool.now.trees c.args.formula)
    (tree_in c.falsity_in.new.pool.trees c.in_ok-falsity.falsity) falsity c.supposes-then-supposes.result
    c.supposes-then-supposes.ensures
    (box_same c.args.pool.now c.falsity_in.new.pool c.args.other.now g c.requires.other)
    (tree_later c.args.pool.now c.falsity_in.new.pool c.args.formula g c.requires.formula)
    (has_tree c.falsity_in.new.pool c.in_ok-falsity.falsity falsity c.in_ok-falsity.ensures.tree))

pub returns-else-supposes-clause-cases : goal.returns-else-supposes-clause-cases
returns-else-supposes-clause-cases c =
    let g : Grows c.args.pool.now c.falsity_in.new.pool =
    grows_trans c.args.pool.now c.truth_in.new.pool c.falsity_in.new.pool c.in_ok-truth.ensures.grows
    c.in_ok-falsity.ensures.grows in
    first_fails (box_in c.args.pool.now c.args.one.now) (box_in c.args.pool.now c.args.other.now)
    (tree_in c.args.pool.now.trees c.args.formula)
    c.supposes.result
    (supposes_same (box_in c.falsity_in.new.pool c.args.one.now) (box_in c.args.pool.now c.args.one.now)
    (tree_in c.falsity_in.new.pool.trees c.args.formula) (tree_in c.args.pool.now.trees c.args.formula)
    (tree_in c.falsity_in.new.pool.trees c.in_ok-truth.truth) truth c.supposes.result c.supposes.ensures
    (box_same c.args.pool.now c.falsity_in.new.pool c.args.one.now g c.requires.one)
    (tree_later c.args.pool.now c.falsity_in.new.pool c.args.formula g c.requires.formula)
    (has_tree_later c.truth_in.new.pool c.falsity_in.new.pool c.in_ok-truth.truth truth c.in_ok-falsity.ensures.grows
    c.in_ok-truth.ensures.tree))
    c.if-supposes.false
