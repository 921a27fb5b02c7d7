use Rattle.larch_pairs.proofs.Unifying.{none_before}
use Rattle.larch_pairs.proofs.unifier.substitution_of.Goals as goal

pub push-requires : goal.push-requires
push-requires c =
    rw c.loop-entry.invariant.0
    (none_before c.args.entries c.loop-entry.yielded c.loop-entry.entry-iterator.rest.items c.next.new.self.rest.items
    c.in-Some.entry
    c.requires c.loop-entry.invariant.1 c.in-Some.ensures.steps.0)
