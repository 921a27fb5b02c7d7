use Rattle.std.proofs.Common.{ap, arith, refl, ◌∙◌, [], ◌∷◌}
use Rattle.std.specs.Prelude.{decimal}
use Rattle.std.proofs.lemmas.Fmt.{decimal_digit}
use Rattle.larch_report.specs.Text.{total_text}
use Rattle.larch_report.proofs.Digits.{total_digits, wrong_by}
use Rattle.larch_report.proofs.examples.a_wrong_trait_is_an_error.Goals as goal

pub returns-clause-text : goal.returns-clause-text
returns-clause-text c =
    let total = total_text (record { traits = 2; errors = 1; proved = 0; suspended = 0; refused = 0 }) in
    ap (λ x. wrong_by x (decimal 7) total) (decimal_digit 3 (omega arith))
    ∙ ap (λ x. wrong_by (51 ∷ []) x total) (decimal_digit 7 (omega arith))
    ∙ ap (λ x. wrong_by (51 ∷ []) (55 ∷ []) x)
    (total_digits 2 1 0 0 0 (omega arith) (omega arith) (omega arith) (omega arith) (omega arith))

pub returns-clause-good : goal.returns-clause-good
returns-clause-good c = refl
