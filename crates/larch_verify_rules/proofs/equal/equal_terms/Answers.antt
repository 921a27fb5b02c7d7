use Rattle.larch_verify_rules.proofs.Equalities.{left_differs, right_differs, both_agree}
use Rattle.larch_verify_rules.proofs.equal.equal_terms.Goals as goal

pub returns-then-not-same-clause-says : goal.returns-then-not-same-clause-says
returns-then-not-same-clause-says c =
    left_differs c.args.pool.now c.equality_in.new.pool c.truth_in.new.pool c.args.sides c.args.left c.args.right
    c.in_ok-equality.equality c.same.result
    c.in_ok-equality.ensures.grows c.in_ok-truth.ensures.grows c.requires.sides c.in_ok-equality.ensures.tree
    c.same.ensures c.if-not-same.true

pub returns-then-not-same-2-clause-says : goal.returns-then-not-same-2-clause-says
returns-then-not-same-2-clause-says c =
    right_differs c.args.pool.now c.equality_in.new.pool c.truth_in.new.pool c.args.sides c.args.left c.args.right
    c.in_ok-equality.equality c.in_ok-truth.truth
    c.same.result c.same-2.result c.in_ok-equality.ensures.grows c.in_ok-truth.ensures.grows c.requires.sides
    c.in_ok-equality.ensures.tree
    c.in_ok-truth.ensures.tree c.same.ensures c.same-2.ensures c.if-not-same.false c.if-not-same-2.true

pub returns-clause-says : goal.returns-clause-says
returns-clause-says c =
    both_agree c.args.pool.now c.equality_in.new.pool c.truth_in.new.pool c.args.sides c.args.left c.args.right
    c.in_ok-equality.equality c.in_ok-truth.truth
    c.same.result c.same-2.result c.in_ok-equality.ensures.grows c.in_ok-truth.ensures.grows c.requires.sides
    c.in_ok-equality.ensures.tree
    c.in_ok-truth.ensures.tree c.same.ensures c.same-2.ensures c.if-not-same.false c.if-not-same-2.false c.requires.left
    c.requires.right
