use Rattle.larch_verify_meaning.specs.Events.{operators_from}
use Rattle.larch_verify_box_rules.proofs.Supposed.{made_told}
use Rattle.larch_verify_box_rules.proofs.showing.made_of.Goals as goal

pub returns-clause-tree : goal.returns-clause-tree
returns-clause-tree c =
    made_told c.intern_operator.new.pool.operators c.constants_in.new.pool.trees c.intern_operator.new.pool.trees
    c.apply.new.self.trees
    c.in_ok-operator.operator c.in_ok-number.number c.args.generator.now c.in_ok-constants.constants
    (operators_from c.args.known.now.number 1 c.args.known.now.parts)
    c.in_ok-operator.ensures.number c.in_ok-operator.ensures.trees c.in_ok-constants.ensures.trees
    c.in_ok-number.ensures.tree
