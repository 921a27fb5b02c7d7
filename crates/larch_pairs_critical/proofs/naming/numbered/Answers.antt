use Rattle.larch_pairs_critical.proofs.Different.{numbered_same}
use Rattle.larch_pairs_critical.proofs.naming.numbered.Goals as goal

pub substitution_of-requires : goal.substitution_of-requires
substitution_of-requires c =
    numbered_same c.args.variables.now c.in_ok-entries.entries c.in_ok-entries.ensures c.requires
