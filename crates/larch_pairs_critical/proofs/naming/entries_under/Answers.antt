use Rattle.std.proofs.Common.{◌∙◌}
use Rattle.larch_pairs_critical.proofs.Different.{under_same}
use Rattle.larch_pairs_critical.proofs.naming.entries_under.Goals as goal

pub substitution_of-requires : goal.substitution_of-requires
substitution_of-requires c =
    under_same c.args.by.now c.args.entries.now c.in_ok-list.list c.in_ok-list.ensures c.requires

pub returns-clause-different : goal.returns-clause-different
returns-clause-different c =
    under_same c.args.by.now c.args.entries.now c.in_ok-under.under
    (c.in_ok-under.ensures ∙ c.in_ok-list.ensures) c.requires
