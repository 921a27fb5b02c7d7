use Rattle.larch_verify_box_rules.proofs.Supposed.{instance_told}
use Rattle.larch_verify_box_rules.proofs.showing.is_instance.Goals as goal

pub returns-clause-instance : goal.returns-clause-instance
returns-clause-instance c =
    instance_told c.args.pool.now c.substitute.new.pool c.substitute-2.new.pool c.args.inductive.now c.args.image
    c.args.sides
    c.in_ok-left.left c.in_ok-right.right c.same_equated.result c.in_ok-left.ensures.grows c.in_ok-right.ensures.grows
    c.requires.inductive c.requires.image c.requires.sides c.in_ok-left.ensures.tree c.in_ok-right.ensures.tree
    c.same_equated.ensures
