use Rattle.larch_flat_replacing.proofs.Lookups.{more_found, more_operators}
use Rattle.larch_flat_replacing.proofs.replacements.Replacements.with_operator.Goals as goal

pub invariant_of-result : goal.invariant_of-result
invariant_of-result c =
    more_found c.self.inside.names.entries c.keep_name.new.names.entries c.self.inside.operators c.push.new.self
    c.in_ok-copied.copied c.args.operator.now c.in_ok-word.word c.args.name.now c.self.invariant
    c.in_ok-keep_name.ensures
    c.in_ok-copied.ensures c.in_ok-word.ensures c.in_ok-push.ensures.ok

pub returns : goal.returns
returns c =
    more_operators c.args.self c.self.inside.sorts.entries c.self.inside.operators c.push.new.self c.in_ok-copied.copied
    c.args.operator.now c.in_ok-word.word c.args.name.now c.self.view_is c.in_ok-copied.ensures c.in_ok-word.ensures
    c.in_ok-push.ensures.ok
