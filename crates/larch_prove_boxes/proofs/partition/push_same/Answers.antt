use Rattle.std.specs.Prelude.{◌≡◌, None, ◌∷◌}
use Rattle.std.proofs.Common.{subst, sym}
use Rattle.larch_term.specs.Sorts.{sort_of}
use Rattle.larch_term.specs.Statement.{statement_zero}
use Rattle.larch_prove_invariant.specs.ProveMeaningPlans.{observers}
use Rattle.larch_prove_boxes.proofs.Ended.{partition_boxed, partitioning_there}
use Rattle.larch_prove_boxes.proofs.Handed.{partition_grows, partition_says}
use Rattle.larch_prove_boxes.proofs.partition.push_same.Goals as goal

pub clause_for-clause-requires : goal.clause_for-clause-requires
clause_for-clause-requires c =
    let w = c.requires.left.1 in
    subst (λ z. observers z (statement_zero ∷ c.as_slice.result.now) ≡ None → ⊥) (sym c.sort_of.ensures)
    (subst (λ ss. observers (sort_of c.args.sides.now.left.now) (statement_zero ∷ ss) ≡ None → ⊥)
    (sym c.as_slice.ensures)
    (partitioning_there c.requires.left.0 _ w.0 c.args.sides.now.left.now c.args.sides.now.right.now w.1.0 _
    c.args.theory.now c.requires.theory w.1.1.0 w.1.1.1))

pub boxes_of-requires : goal.boxes_of-requires
boxes_of-requires c =
    let w = c.requires.left.1 in partition_boxed c.requires.left.0 _ w.0 w.1.0 _ w.1.1.1

pub returns-clause-says : goal.returns-clause-says
returns-clause-says c =
    partition_says c.finish_partition.result c.args.builder.now c.finish_partition.new.builder
    c.args.sides.now.left.now c.args.sides.now.right.now c.args.lefts.now c.args.theory.now c.as_slice.result.now
    c.sort_of.result.now c.clause_for-clause.result c.in_ok-boxes.boxes c.as_slice-2.result.now c.as_slice.ensures
    c.sort_of.ensures c.requires.theory c.requires.sorted c.clause_for-clause.ensures c.in_ok-boxes.ensures
    c.as_slice-2.ensures c.finish_partition.ensures.says

pub returns-clause-grows : goal.returns-clause-grows
returns-clause-grows c =
    partition_grows c.finish_partition.result c.args.builder.now c.finish_partition.new.builder
    c.args.sides.now.left.now c.args.sides.now.right.now c.args.lefts.now c.args.theory.now c.as_slice.result.now
    c.sort_of.result.now c.clause_for-clause.result c.in_ok-boxes.boxes c.as_slice-2.result.now c.as_slice.ensures
    c.sort_of.ensures c.requires.theory c.requires.sorted c.clause_for-clause.ensures c.in_ok-boxes.ensures
    c.as_slice-2.ensures c.finish_partition.ensures.extends c.finish_partition.ensures.says
