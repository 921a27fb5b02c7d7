-- What is written where a text is looked at as a model of a theory, and claims are tried in it.
use Rattle.std.specs.Prelude.{ℕ, suc, ◌&&◌, nat_le, Bool, true, if◌then◌else◌, List, [], ◌∷◌, ◌++◌, codes, decimal}
use Rattle.std.specs.Prelude.{Option, None, Some, Ok, Err}
use Rattle.std.specs.List.{list_all}
use Rattle.larch_base.specs.Label.{label_text}
use Rattle.larch_base.specs.declared.label.Label.{Label}
use Rattle.larch_base.specs.declared.label.Label.TheVariants.{Assume, Imply}
use Rattle.larch_term.specs.declared.statement.Statement.{Statement}
use Rattle.larch_term.specs.declared.statement.Statement.TheVariants.{Equation, Generated, Partitioned}
use Rattle.larch_term.specs.declared.statement.Theory.{Theory}
use Rattle.larch_models_meaning.specs.declared.finite_model.FiniteModel.{FiniteModel}
use Rattle.larch_models_meaning.specs.Computed.{holds, variables_of_both}
use Rattle.larch_models_meaning.specs.FiniteModel.{assignment_count, first_failing, interpretation_of, last_in}
use Rattle.larch_models_meaning.specs.Interpretation.{Interpretation}
use Rattle.larch_models_meaning.specs.ModelText.{ModelReading, read_model}
use Rattle.larch_models.specs.declared.truth.TheConstants.{MAX_ASSIGNMENTS}
use Rattle.larch_models_answer.specs.declared.claim.Kind.{Kind}
use Rattle.larch_models_answer.specs.declared.claim.Kind.TheVariants.{Assumed, Implied}
use Rattle.larch_models_answer.specs.declared.finding.Ending.{Ending}
use Rattle.larch_models_answer.specs.declared.finding.Ending.TheVariants.{Holds, Fails, Malformed, TooLarge}
use Rattle.larch_models_answer.specs.declared.finding.Finding.{Finding}

-- this text and this ending
abbrev pub found : List ℕ → Ending → Finding
found text ending = record { text = text; ending = ending }

-- whether all holds, as an ending
abbrev pub ending_of : Bool → Ending
ending_of all = if all then Holds else Fails

-- ---- claims

-- the label of the claim of a kind with a number
abbrev pub label_at : Kind → ℕ → Label
label_at Assumed n = Assume n
label_at Implied n = Imply n

-- whether a claim holds, as it is written behind its label
abbrev pub verdict_text : Bool → List ℕ
verdict_text so = if so then codes " holds\n" else codes " fails\n"

-- the line of a claim
abbrev pub claim_line : Interpretation → Label → Statement → List ℕ
claim_line m label s = label_text label ++ verdict_text (holds m s)

-- the lines of claims of a kind, with numbers from here on
abbrev pub claim_lines : Interpretation → Kind → ℕ → List Statement → List ℕ
claim_lines m kind n [] = []
claim_lines m kind n (s ∷ ss) = claim_line m (label_at kind n) s ++ claim_lines m kind (suc n) ss

-- what is found of claims in a model of the theory: what is assumed comes first
abbrev pub claims_finding : Interpretation → List Statement → List Statement → Finding
claims_finding m assumed implied =
    found
    (codes "model\n" ++ (claim_lines m Assumed 1 assumed ++ (claim_lines m Implied 1 implied ++ codes "end\n")))
    (ending_of (list_all (holds m) assumed && list_all (holds m) implied))

-- ---- texts

-- a statement has few enough assignments to be tried
abbrev pub is_small : FiniteModel → Statement → Bool
is_small m (Equation l r) = nat_le (assignment_count (last_in m) (variables_of_both l r)) MAX_ASSIGNMENTS
is_small m (Generated s fs) = true
is_small m (Partitioned s os) = true

-- the statement with this number is the first of the theory that doesn't hold
abbrev pub failing_finding : ℕ → Finding
failing_finding k = found (codes "fails " ++ (decimal k ++ codes "\n")) Fails

-- what is found by the number of the first statement that doesn't hold
abbrev pub finding_by : Interpretation → List Statement → List Statement → Option ℕ → Finding
finding_by m assumed implied None = claims_finding m assumed implied
finding_by m assumed implied (Some k) = failing_finding k

-- what is found of a model: that some statement has too many assignments comes first
abbrev pub judge : FiniteModel → Theory → List Statement → List Statement → Finding
judge m t assumed implied =
    if list_all (is_small m) t.statements && (list_all (is_small m) assumed && list_all (is_small m) implied)
    then finding_by (interpretation_of m) assumed implied (first_failing (interpretation_of m) t.statements)
    else found (codes "too large\n") TooLarge

-- the text is outside the grammar from this line on
abbrev pub malformed_finding : ℕ → Finding
malformed_finding n = found (codes "malformed at line " ++ (decimal n ++ codes "\n")) Malformed

-- what is found by what the text is read as
abbrev pub judge_reading : Theory → List Statement → List Statement → ModelReading → Finding
judge_reading t assumed implied (Ok m) = judge m t assumed implied
judge_reading t assumed implied (Err n) = malformed_finding n

-- what is found where a text is looked at as a model of a theory, and claims are tried in it
abbrev pub judge_model : Theory → List Statement → List Statement → List ℕ → Finding
judge_model t assumed implied text = judge_reading t assumed implied (read_model t.operators text)
