-- What holds of all sorts where something stronger does.
use Rattle.std.proofs.Common.{List, ℕ, All}
use Rattle.std.proofs.lemmas.List.Elements.{All-contains}
use Rattle.larch_base.proofs.Lists.{all_from}
use Rattle.larch_term.specs.Operator.{PlainOperator}
use Rattle.larch_term.specs.Tree.{Tree, Forest, var, app, none, more}
use Rattle.larch_term.specs.declared.statement.Statement.{Statement}
use Rattle.larch_term.specs.declared.statement.Statement.TheVariants.{Equation, Generated, Partitioned}
use Rattle.larch_term.specs.declared.statement.Theory.{Theory}
use Rattle.larch_import_names.specs.Sorted.{OfOperator, OfTerm, OfTerms, OfStatement, OfTheory}

all_weaker : {X : Type 0} (P Q : X → Type 0) → ((x : X) → P x → Q x) → (xs : List X) → All P xs → All Q xs
all_weaker P Q f xs a = all_from Q xs (λ x c. f x (All-contains P xs x a c))

module _ (P Q : List ℕ → Type 0) (f : (s : List ℕ) → P s → Q s) where
  operator_weaker : (g : PlainOperator) → OfOperator P g → OfOperator Q g
  operator_weaker g p = (all_weaker P Q f g.domain p.0, f g.range p.1)

  mutual
    term_weaker : (t : Tree) → OfTerm P t → OfTerm Q t
    term_weaker (var n s) p = f s p
    term_weaker (app g ts) p = (operator_weaker g p.0, terms_weaker ts p.1)

    terms_weaker : (ts : Forest) → OfTerms P ts → OfTerms Q ts
    terms_weaker none p = tt
    terms_weaker (more t ts) p = (term_weaker t p.0, terms_weaker ts p.1)

  statement_weaker : (s : Statement) → OfStatement P s → OfStatement Q s
  statement_weaker (Equation l r) p = (term_weaker l p.0, term_weaker r p.1)
  statement_weaker (Generated s gs) p =
      (f s p.0, all_weaker (OfOperator P) (OfOperator Q) operator_weaker gs p.1)
  statement_weaker (Partitioned s gs) p =
      (f s p.0, all_weaker (OfOperator P) (OfOperator Q) operator_weaker gs p.1)

  pub theory_weaker : (t : Theory) → OfTheory P t → OfTheory Q t
  theory_weaker t p =
      record {
        operators = all_weaker (OfOperator P) (OfOperator Q) operator_weaker t.operators p.operators;
        statements = all_weaker (OfStatement P) (OfStatement Q) statement_weaker t.statements p.statements;
      }
