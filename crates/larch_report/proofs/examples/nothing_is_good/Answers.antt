use Rattle.std.proofs.Common.{ap, arith, refl, codes, ◌++◌}
use Rattle.larch_report.proofs.Digits.{total_digits}
use Rattle.larch_report.proofs.examples.nothing_is_good.Goals as goal

pub returns-clause-text : goal.returns-clause-text
returns-clause-text c =
    ap (λ total. total ++ codes "end\n")
    (total_digits 0 0 0 0 0 (omega arith) (omega arith) (omega arith) (omega arith) (omega arith))

pub returns-clause-good : goal.returns-clause-good
returns-clause-good c = refl
