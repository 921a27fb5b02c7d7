-- Renamings that agree on a trait's operators and on the sorts that stand in them.
use Rattle.std.proofs.Common.{◌≡◌, ℕ, List, All, Contains, map, refl, ap}
use Rattle.std.proofs.lemmas.List.Elements.{All-contains}
use Rattle.larch_base.proofs.Lists.{map_by}
use Rattle.larch_term.specs.Operator.{PlainOperator}
use Rattle.larch_term.specs.Sorts.{IsKnown, IsOver, AllOver}
use Rattle.larch_term.specs.Statement.{IsStatementOver}
use Rattle.larch_term.specs.Tree.{Tree, Forest, var, app, none, more}
use Rattle.larch_term.specs.declared.statement.Statement.{Statement}
use Rattle.larch_term.specs.declared.statement.Statement.TheVariants.{Equation, Generated, Partitioned}
use Rattle.larch_renaming.specs.Renaming.{Renaming, rename_tree, renamed_all, renamed_statement}
use Rattle.larch_sorts_meaning.specs.Laws.{OperatorSorts, TermSorts, ForestSorts, StatementSorts}

module _ (r q : Renaming) (fs : List PlainOperator) (P : List ℕ → Type 0)
    (same_sort : (s : List ℕ) → P s → r.sort s ≡ q.sort s)
    (same_operator : (f : PlainOperator) → IsKnown fs f → OperatorSorts P f → r.operator f ≡ q.operator f) where
  mutual
    same_term : (t : Tree) → IsOver fs t → TermSorts P t → rename_tree r t ≡ rename_tree q t
    same_term (var n s) o p = ap (var n) (same_sort s p)
    same_term (app f ts) o p = λ i. app (same_operator f o.0 p.0 i) (same_terms ts o.1 p.1 i)

    same_terms : (ts : Forest) → AllOver fs ts → ForestSorts P ts → renamed_all r ts ≡ renamed_all q ts
    same_terms none o p = refl
    same_terms (more t ts) o p = λ i. more (same_term t o.0 p.0 i) (same_terms ts o.1 p.1 i)

  same_operators : (gs : List PlainOperator) → ((g : PlainOperator) → Contains gs g → IsKnown fs g)
      → All (OperatorSorts P) gs → map r.operator gs ≡ map q.operator gs
  same_operators gs k p =
      map_by r.operator q.operator gs (λ g c. same_operator g (k g c) (All-contains (OperatorSorts P) gs g p c))

  pub same_statement : (s : Statement) → IsStatementOver fs s → StatementSorts P s
      → renamed_statement r s ≡ renamed_statement q s
  same_statement (Equation l z) o p = λ i. Equation (same_term l o.0.1 p.0 i) (same_term z o.1.1 p.1 i)
  same_statement (Generated s gs) o p =
      let same = same_operators gs
      (λ g c. (All-contains (λ h. IsKnown fs h × (h.range ≡ s)) gs g o c).0) p.1 in
      λ i. Generated (same_sort s p.0 i) (same i)
  same_statement (Partitioned s gs) o p =
      let same = same_operators gs
      (λ g c. (All-contains (λ h. IsKnown fs h × Contains h.domain s) gs g o c).0) p.1 in
      λ i. Partitioned (same_sort s p.0 i) (same i)
