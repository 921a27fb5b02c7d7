use Rattle.larch_tables.proofs.Offered.{has_number}
use Rattle.larch_tables.specs.Tables.{built_in_rows, deduction_rows}
use Rattle.larch_tables.proofs.laws.numbers_of_rows.Goals as goal

pub returns : goal.returns
returns c =
    record { built_in = λ s n. has_number (built_in_rows s) n; deductions = λ s n. has_number (deduction_rows s) n }
