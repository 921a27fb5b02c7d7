use Rattle.larch_renaming.proofs.RenamedSubstitutions.{renamed_substituted, apart_by_sorts, renamed_fits}
use Rattle.larch_renaming.proofs.RenamedSubstitutions.{renamed_entries_over}
use Rattle.larch_renaming.proofs.laws.renaming_of_substituted.Goals as goal

pub returns : goal.returns
returns c =
    record {
      term = renamed_substituted;
      apart = apart_by_sorts;
      fits = renamed_fits;
      over = renamed_entries_over;
    }
