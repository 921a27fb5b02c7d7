use Rattle.larch_renaming.proofs.Renamed.{renamed_over}
use Rattle.larch_renaming.proofs.RenamedStatements.{renamed_statement_over, renamed_theory_well_sorted, theory_carries}
use Rattle.larch_renaming.proofs.laws.renaming_carries_operators.Goals as goal

pub returns : goal.returns
returns c =
    record {
      term = renamed_over;
      statement = renamed_statement_over;
      theory = renamed_theory_well_sorted;
      own = theory_carries;
    }
