use Rattle.larch_renaming.proofs.Renamed.{renamed_alike, renamed_alike_over}
use Rattle.larch_renaming.proofs.RenamedStatements.{statement_alike, theory_alike, statement_alike_over}
use Rattle.larch_renaming.proofs.RenamedStatements.{theory_alike_over}
use Rattle.larch_renaming.proofs.laws.alike_renamings_agree.Goals as goal

pub returns : goal.returns
returns c =
    record {
      term = renamed_alike;
      statement = statement_alike;
      theory = theory_alike;
      term_over = renamed_alike_over;
      statement_over = statement_alike_over;
      theory_over = theory_alike_over;
    }
