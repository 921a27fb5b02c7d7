-- Conversions and duties are told apart by their parts.
use Rattle.std.specs.Prelude.{◌≡◌, ℕ, List, ◌⊎◌, Option, refl}
use Rattle.std.proofs.Common.{inl, inr}
use Rattle.std.specs.Coded.{Coded, code_by, coded×, coded⊎, coded_ℕ, coded_list, coded_option}
use Rattle.larch_base.specs.declared.label.Label.{Label}
use Rattle.larch_base.specs.declared.label.Label.TheVariants.{Assume, Imply, Convert}
use Rattle.larch_term.specs.Operator.{PlainOperator, coded_operator}
use Rattle.larch_term.specs.Tree.{Tree}
use Rattle.larch_term.specs.TreeCode.{coded_tree}
use Rattle.larch_term.specs.declared.statement.Statement.{Statement}
use Rattle.larch_term.specs.declared.statement.Theory.{Theory}
use Rattle.larch_duties_meaning.specs.Claims.{Claim}
use Rattle.larch_duties_meaning.specs.Conversions.{Clause, Conversion, Copied}
use Rattle.larch_duties_meaning.specs.Duties.{ClauseDuties, Duties, Duty}
use Rattle.larch_flat.specs.FlatStatementsMarkedCode.{coded_statement}

abbrev pub coded_conversion : Coded Conversion
coded_conversion =
    code_by (List PlainOperator × List Tree) (coded× (coded_list coded_operator) (coded_list coded_tree))
    (λ c. (c.converted, c.exempted)) (λ p. record { converted = p.0; exempted = p.1 }) (λ _. refl)

abbrev label_parts : Label → ℕ ⊎ (ℕ ⊎ ℕ)
label_parts (Assume n) = inl n
label_parts (Imply n) = inr (inl n)
label_parts (Convert n) = inr (inr n)

abbrev label_of : ℕ ⊎ (ℕ ⊎ ℕ) → Label
label_of (inl n) = Assume n
label_of (inr (inl n)) = Imply n
label_of (inr (inr n)) = Convert n

pub label_of_parts : (l : Label) → label_of (label_parts l) ≡ l
label_of_parts (Assume n) = refl
label_of_parts (Imply n) = refl
label_of_parts (Convert n) = refl

abbrev coded_label : Coded Label
coded_label =
    code_by (ℕ ⊎ (ℕ ⊎ ℕ)) (coded⊎ coded_ℕ (coded⊎ coded_ℕ coded_ℕ)) label_parts label_of label_of_parts

abbrev coded_theory : Coded Theory
coded_theory =
    code_by (List PlainOperator × List Statement) (coded× (coded_list coded_operator) (coded_list coded_statement))
    (λ t. (t.operators, t.statements)) (λ p. record { operators = p.0; statements = p.1 }) (λ _. refl)

abbrev coded_duty : Coded Duty
coded_duty =
    code_by (Label × (Theory × Statement)) (coded× coded_label (coded× coded_theory coded_statement))
    (λ d. (d.label, (d.theory, d.statement)))
    (λ p. record { label = p.0; theory = p.1.0; statement = p.1.1 }) (λ _. refl)

abbrev pub coded_claim : Coded Claim
coded_claim =
    code_by (Label × (Option ℕ × (Theory × Statement)))
    (coded× coded_label (coded× (coded_option coded_ℕ) (coded× coded_theory coded_statement)))
    (λ c. (c.label, (c.clause, (c.theory, c.statement))))
    (λ p. record { label = p.0; clause = p.1.0; theory = p.1.1.0; statement = p.1.1.1 }) (λ _. refl)

abbrev pub coded_copied : Coded Copied
coded_copied =
    code_by (PlainOperator × List ℕ) (coded× coded_operator (coded_list coded_ℕ))
    (λ c. (c.operator, c.word)) (λ p. record { operator = p.0; word = p.1 }) (λ _. refl)

abbrev pub coded_clause : Coded Clause
coded_clause =
    code_by (List Copied × (List Statement × List Statement))
    (coded× (coded_list coded_copied) (coded× (coded_list coded_statement) (coded_list coded_statement)))
    (λ c. (c.copies, (c.copied, c.exempt)))
    (λ p. record { copies = p.0; copied = p.1.0; exempt = p.1.1 }) (λ _. refl)

abbrev coded_clause_duties : Coded ClauseDuties
coded_clause_duties =
    code_by (Clause × List Duty) (coded× coded_clause (coded_list coded_duty))
    (λ c. (c.clause, c.duties)) (λ p. record { clause = p.0; duties = p.1 }) (λ _. refl)

abbrev pub coded_duties : Coded Duties
coded_duties =
    code_by (List Duty × List ClauseDuties) (coded× (coded_list coded_duty) (coded_list coded_clause_duties))
    (λ d. (d.own, d.clauses)) (λ p. record { own = p.0; clauses = p.1 }) (λ _. refl)
