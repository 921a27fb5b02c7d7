use Rattle.std.proofs.Common.{ap, arith, ◌∙◌, [], ◌∷◌}
use Rattle.std.specs.Prelude.{decimal}
use Rattle.std.proofs.lemmas.Fmt.{decimal_digit}
use Rattle.larch_report.specs.Text.{total_text}
use Rattle.larch_report.proofs.Digits.{duties_by, total_digits}
use Rattle.larch_report.proofs.examples.duties_and_scripts_are_told.Goals as goal

pub returns : goal.returns
returns c =
    let total = total_text (record { traits = 1; errors = 2; proved = 1; suspended = 1; refused = 1 }) in
    ap (λ x. duties_by x (decimal 2) (decimal 3) (decimal 7) (decimal 9) total) (decimal_digit 1 (omega arith))
    ∙ ap (λ x. duties_by (49 ∷ []) x (decimal 3) (decimal 7) (decimal 9) total) (decimal_digit 2 (omega arith))
    ∙ ap (λ x. duties_by (49 ∷ []) (50 ∷ []) x (decimal 7) (decimal 9) total) (decimal_digit 3 (omega arith))
    ∙ ap (λ x. duties_by (49 ∷ []) (50 ∷ []) (51 ∷ []) x (decimal 9) total) (decimal_digit 7 (omega arith))
    ∙ ap (λ x. duties_by (49 ∷ []) (50 ∷ []) (51 ∷ []) (55 ∷ []) x total) (decimal_digit 9 (omega arith))
    ∙ ap (λ x. duties_by (49 ∷ []) (50 ∷ []) (51 ∷ []) (55 ∷ []) (57 ∷ []) x)
    (total_digits 1 2 1 1 1 (omega arith) (omega arith) (omega arith) (omega arith) (omega arith))
