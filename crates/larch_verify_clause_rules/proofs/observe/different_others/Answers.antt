use Rattle.std.proofs.Common.{◌∙◌, ap}
use Rattle.larch_verify_parts.specs.Apart.{all_apart}
use Rattle.larch_verify_clause_rules.proofs.Others.{others_are, others_none, others_some}
use Rattle.larch_verify_clause_rules.proofs.observe.different_others.Goals as goal

pub returns-then-not-are_different-clause-says : goal.returns-then-not-are_different-clause-says
returns-then-not-are_different-clause-says c =
    others_none c.args.pool.now.trees c.args.variables.items c.remove.new.self.items c.args.index
    c.in_ok-are_different.are_different c.are_apart.ensures c.requires.variables c.remove.ensures.items
    (c.in_ok-are_different.ensures ∙ ap all_apart c.deref.ensures.value) c.if-not-are_different.true

pub returns-clause-others : goal.returns-clause-others
returns-clause-others c =
    others_are c.args.pool.now.trees c.args.variables.items c.remove.new.self.items c.args.index c.requires.variables
    c.remove.ensures.items

pub returns-clause-says : goal.returns-clause-says
returns-clause-says c =
    others_some c.args.pool.now.trees c.args.variables.items c.remove.new.self.items c.args.index
    c.in_ok-are_different.are_different c.are_apart.ensures c.requires.variables c.remove.ensures.items
    (c.in_ok-are_different.ensures ∙ ap all_apart c.deref.ensures.value) c.if-not-are_different.false
