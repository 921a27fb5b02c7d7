-- Numbers of one digit in the texts of reports.
use Rattle.std.proofs.Common.{◌≡◌, ℕ, ◌+◌, ◌<◌, List, [], ◌∷◌, ◌++◌, ap, ◌∙◌, codes}
use Rattle.std.specs.Prelude.{decimal}
use Rattle.std.proofs.lemmas.Fmt.{decimal_digit}
use Rattle.larch_report.specs.Text.{total_text}
use Rattle.larch_report.specs.declared.counts.Counts.{Counts}

-- the line of the totals, by the texts of its numbers
abbrev pub total_by : (a b c d e : List ℕ) → List ℕ
total_by a b c d e =
    codes "total " ++ (a ++ (codes " traits, " ++ (b ++ (codes " errors, "
    ++ (c ++ (codes " proved, " ++ (d ++ (codes " suspended, " ++ (e ++ codes " refused\n")))))))))

-- its numbers are digits
pub total_digits : (a b c d e : ℕ) → a < 10 → b < 10 → c < 10 → d < 10 → e < 10
    → total_text (record { traits = a; errors = b; proved = c; suspended = d; refused = e })
    ≡ total_by ((48 + a) ∷ []) ((48 + b) ∷ []) ((48 + c) ∷ []) ((48 + d) ∷ []) ((48 + e) ∷ [])
total_digits a b c d e l m n o p =
    ap (λ x. total_by x (decimal b) (decimal c) (decimal d) (decimal e)) (decimal_digit a l)
    ∙ ap (λ x. total_by ((48 + a) ∷ []) x (decimal c) (decimal d) (decimal e)) (decimal_digit b m)
    ∙ ap (λ x. total_by ((48 + a) ∷ []) ((48 + b) ∷ []) x (decimal d) (decimal e)) (decimal_digit c n)
    ∙ ap (λ x. total_by ((48 + a) ∷ []) ((48 + b) ∷ []) ((48 + c) ∷ []) x (decimal e)) (decimal_digit d o)
    ∙ ap (λ x. total_by ((48 + a) ∷ []) ((48 + b) ∷ []) ((48 + c) ∷ []) ((48 + d) ∷ []) x) (decimal_digit e p)

-- the report on a right trait and a wrong one, by the texts of line and column and its total
abbrev pub wrong_by : (line column total : List ℕ) → List ℕ
wrong_by line column total =
    (codes "trait One\n" ++ ((codes "trait " ++ (codes "Two"
    ++ (codes " error " ++ (line ++ codes ":" ++ column) ++ codes " " ++ codes "SYNTAX" ++ codes "\n"))) ++ []))
    ++ (total ++ codes "end\n")

-- the report on duties and scripts, by the texts of numbers and its total
abbrev pub duties_by : (one two three seven nine total : List ℕ) → List ℕ
duties_by one two three seven nine total =
    (codes "trait One\n" ++ (((codes "assume." ++ one) ++ codes " proved\n")
    ++ (((codes "imply." ++ one) ++ (codes " suspended goals " ++ two ++ codes ": " ++ (codes "x" ++ codes "\n")))
    ++ (((codes "convert." ++ three) ++ (codes " refused " ++ seven ++ codes " " ++ codes "FACT" ++ codes "\n"))
    ++ ((codes "script " ++ nine ++ codes " " ++ codes "UNKNOWN-DUTY" ++ codes "\n")
    ++ ((codes "script " ++ (codes "Two" ++ codes " without trait\n")) ++ []))))))
    ++ (total ++ codes "end\n")
