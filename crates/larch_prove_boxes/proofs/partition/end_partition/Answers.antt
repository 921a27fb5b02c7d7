use Rattle.larch_prove_boxes.proofs.Ended.{sides_there}
use Rattle.larch_prove_boxes.proofs.Handed.{equality_grows, equality_says}
use Rattle.larch_prove_boxes.proofs.partition.end_partition.Goals as goal

pub sides_of-requires : goal.sides_of-requires
sides_of-requires c = sides_there c.requires.left.0 _ c.args.goal.now _ _ c.requires.left.1.1

pub push_same-requires-clause-left : goal.push_same-requires-clause-left
push_same-requires-clause-left c = (
  c.requires.left.0,
  (c.args.goal.now, (c.requires.left.1.0, (c.in_ok-sides.ensures, c.requires.left.1.1))),
)

pub returns-clause-says : goal.returns-clause-says
returns-clause-says c =
    equality_says c.push_equality.result c.args.builder.now c.push_same.new.builder c.push_equality.new.builder
    c.args.goal.now c.in_ok-sides.sides.left.now c.in_ok-sides.sides.right.now c.args.lefts.now c.in_ok-line.line
    c.in_ok-sides.ensures c.in_ok-line.ensures.says c.push_equality.ensures.says

pub returns-clause-grows : goal.returns-clause-grows
returns-clause-grows c =
    equality_grows c.push_equality.result c.args.builder.now c.push_same.new.builder c.push_equality.new.builder
    c.args.goal.now c.in_ok-sides.sides.left.now c.in_ok-sides.sides.right.now c.args.lefts.now c.in_ok-line.line
    c.in_ok-sides.ensures c.in_ok-line.ensures.says c.in_ok-line.ensures.grows c.push_equality.ensures.extends
