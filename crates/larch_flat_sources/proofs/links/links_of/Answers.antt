use Rattle.larch_flat_sources.proofs.Linking.{links_within}
use Rattle.larch_flat_sources.proofs.links.links_of.Goals as goal

pub invariant_of-result : goal.invariant_of-result
invariant_of-result c = links_within c.args.sources.now c.in_ok-referring.referring.items c.in_ok-referring.ensures
