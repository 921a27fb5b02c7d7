use Rattle.std.proofs.Common.{◌∙◌}
use Rattle.indexmap.proofs.CallerLemmas.{insert_entry-new}
use Rattle.larch_flat_replacing.proofs.Lookups.{more_sorts, not_in}
use Rattle.larch_flat_replacing.proofs.replacements.Replacements.with_sort.Goals as goal

pub returns : goal.returns
returns c =
    more_sorts c.args.self c.self.inside.sorts.entries c.insert.new.self.entries c.self.inside.operators c.in_ok-old.old
    c.args.old.now
    c.in_ok-new.new c.args.new.now c.self.view_is c.in_ok-old.ensures c.in_ok-new.ensures
    (c.in_ok-insert.ensures.entries
    ∙ insert_entry-new _ c.self.inside.sorts c.in_ok-old.old c.in_ok-new.new
    (not_in c.args.self c.self.inside.sorts.entries c.self.inside.operators c.in_ok-old.old c.args.old.now
    c.self.view_is
    c.in_ok-old.ensures c.requires))
