-- Theories are told apart by their parts.
use Rattle.std.specs.Prelude.{◌≡◌, ℕ, List, ◌⊎◌, refl}
use Rattle.std.proofs.Common.{inl, inr}
use Rattle.std.specs.Coded.{Coded, code_by, coded×, coded⊎, coded_ℕ, coded_list}
use Rattle.larch_term.specs.Operator.{PlainOperator, coded_operator}
use Rattle.larch_term.specs.Tree.{Tree}
use Rattle.larch_term.specs.TreeCode.{coded_tree}
use Rattle.larch_term.specs.declared.statement.Statement.{Statement}
use Rattle.larch_term.specs.declared.statement.Statement.TheVariants.{Equation, Generated, Partitioned}
use Rattle.larch_term.specs.declared.statement.Theory.{Theory}

abbrev Clause : Type 0
Clause = List ℕ × List PlainOperator

abbrev statement_parts : Statement → (Tree × Tree) ⊎ (Clause ⊎ Clause)
statement_parts (Equation l r) = inl (l, r)
statement_parts (Generated s fs) = inr (inl (s, fs))
statement_parts (Partitioned s fs) = inr (inr (s, fs))

abbrev statement_of : (Tree × Tree) ⊎ (Clause ⊎ Clause) → Statement
statement_of (inl p) = Equation p.0 p.1
statement_of (inr (inl p)) = Generated p.0 p.1
statement_of (inr (inr p)) = Partitioned p.0 p.1

pub statement_of_parts : (s : Statement) → statement_of (statement_parts s) ≡ s
statement_of_parts (Equation l r) = refl
statement_of_parts (Generated s fs) = refl
statement_of_parts (Partitioned s fs) = refl

abbrev coded_clause : Coded Clause
coded_clause = coded× (coded_list coded_ℕ) (coded_list coded_operator)

abbrev coded_statement : Coded Statement
coded_statement =
    code_by ((Tree × Tree) ⊎ (Clause ⊎ Clause))
    (coded⊎ (coded× coded_tree coded_tree) (coded⊎ coded_clause coded_clause))
    statement_parts statement_of statement_of_parts

abbrev pub coded_theory : Coded Theory
coded_theory =
    code_by (List PlainOperator × List Statement) (coded× (coded_list coded_operator) (coded_list coded_statement))
    (λ t. (t.operators, t.statements)) (λ p. record { operators = p.0; statements = p.1 }) (λ _. refl)
