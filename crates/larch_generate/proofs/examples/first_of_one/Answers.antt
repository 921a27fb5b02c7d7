-- A number of one digit is that digit.
use Rattle.std.proofs.Common.{ap, arith, codes, ◌++◌}
use Rattle.std.proofs.lemmas.Fmt.{decimal_digit}
use Rattle.larch_generate.specs.Generator.{common_text, tower}
use Rattle.larch_generate.proofs.examples.first_of_one.Goals as goal

pub returns-clause-text : goal.returns-clause-text
returns-clause-text c =
    ap (λ d. (codes "G" ++ d)
    ++ (common_text ++ (tower 6 (codes "0") ++ (codes " == " ++ (tower 6 (codes "x") ++ codes "\n")))))
    (decimal_digit 0 (omega arith))
