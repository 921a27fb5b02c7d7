-- What has no constants of boxes stays where constants of boxes get other numbers.
use Rattle.std.proofs.Common.{◌≡◌, ℕ, inl, inr, List, map, Contains, refl, sym, ◌∙◌, ap}
use Rattle.std.proofs.Common.{subst}
use Rattle.std.proofs.lemmas.List.Elements.{All-contains}
use Rattle.std.proofs.lemmas.List.{map-id}
use Rattle.larch_base.proofs.Lists.{map_by}
use Rattle.larch_base.proofs.Members.{contains_map}
use Rattle.larch_term.specs.Operator.{OperatorName, PlainOperator, plain, boxed}
use Rattle.larch_term.specs.Sorts.{IsKnown, IsOver, AllOver}
use Rattle.larch_term.specs.Statement.{IsStatementOver}
use Rattle.larch_term.specs.Tree.{Tree, Forest, var, app, none, more}
use Rattle.larch_term.specs.declared.statement.Statement.{Statement}
use Rattle.larch_term.specs.declared.statement.Statement.TheVariants.{Equation, Generated, Partitioned}
use Rattle.larch_term.specs.declared.statement.Theory.{Theory}
use Rattle.larch_renaming.proofs.RenamedStatements.{statement_unchanged, statement_alike_over}
use Rattle.larch_renaming.specs.Renaming.{no_renaming, by_name, rename_tree, renamed_all, renamed_statement}
use Rattle.larch_renaming.specs.Renaming.{AreAlikeOver}
use Rattle.larch_calculus.specs.Renaming.{RenamesBoxes, IsPlainName, HasPlainNames}
use Rattle.larch_derive_join.specs.Joined.{name_on}

pub boxes_alone : (o : ℕ) → RenamesBoxes (name_on o)
boxes_alone o n = refl

same_name : (o : ℕ) (n : OperatorName) → IsPlainName n → name_on o n ≡ n
same_name o (plain n) p = refl
same_name o (boxed b k) p = absurd p

was_plain : (o : ℕ) (n : OperatorName) → IsPlainName (name_on o n) → IsPlainName n
was_plain o (plain n) p = p
was_plain o (boxed b k) p = absurd p

-- a known operator has a plain name
pub known_plain : (t : Theory) → HasPlainNames t → (f : PlainOperator) → IsKnown t.operators f → IsPlainName f.name
known_plain t p f (inl c) = All-contains (λ g. IsPlainName g.name) t.operators f p c
known_plain t p f (inr (b, (s, e))) = subst (λ g. IsPlainName g.name) (sym e) tt

pub same_operator_on : (o : ℕ) (f : PlainOperator) → IsPlainName f.name → (by_name (name_on o)).operator f ≡ f
same_operator_on o f p = λ i. record { name = same_name o f.name p i; domain = f.domain; range = f.range }

pub alike_on : (o : ℕ) (t : Theory) → HasPlainNames t → AreAlikeOver (by_name (name_on o)) no_renaming t.operators
alike_on o t p =
    record { sorts = λ s. refl; operators = λ f k. same_operator_on o f (known_plain t p f k) }

-- a statement over the theory stays
pub same_statement_on : (o : ℕ) (t : Theory) → HasPlainNames t → (s : Statement) → IsStatementOver t.operators s
    → renamed_statement (by_name (name_on o)) s ≡ s
same_statement_on o t p s w =
    statement_alike_over (by_name (name_on o)) no_renaming t.operators (alike_on o t p) s w ∙ statement_unchanged s

-- so does one that becomes a statement over the theory
back_operator : (o : ℕ) (t : Theory) → HasPlainNames t → (f : PlainOperator)
    → IsKnown t.operators ((by_name (name_on o)).operator f) → (by_name (name_on o)).operator f ≡ f
back_operator o t p f k =
    same_operator_on o f (was_plain o f.name (known_plain t p ((by_name (name_on o)).operator f) k))

mutual
  back_tree : (o : ℕ) (t : Theory) → HasPlainNames t → (a : Tree)
      → IsOver t.operators (rename_tree (by_name (name_on o)) a) → rename_tree (by_name (name_on o)) a ≡ a
  back_tree o t p (var n s) w = refl
  back_tree o t p (app f ts) w = λ i. app (back_operator o t p f w.0 i) (back_all o t p ts w.1 i)

  back_all : (o : ℕ) (t : Theory) → HasPlainNames t → (ts : Forest)
      → AllOver t.operators (renamed_all (by_name (name_on o)) ts) → renamed_all (by_name (name_on o)) ts ≡ ts
  back_all o t p none w = refl
  back_all o t p (more a ts) w = λ i. more (back_tree o t p a w.0 i) (back_all o t p ts w.1 i)

back_operators : (o : ℕ) (t : Theory) → HasPlainNames t → (fs : List PlainOperator)
    → ((g : PlainOperator) → Contains (map (by_name (name_on o)).operator fs) g → IsKnown t.operators g)
    → map (by_name (name_on o)).operator fs ≡ fs
back_operators o t p fs k =
    map_by (by_name (name_on o)).operator (λ f. f) fs
    (λ f c. back_operator o t p f
    (k ((by_name (name_on o)).operator f) (contains_map (by_name (name_on o)).operator fs f c)))
    ∙ map-id fs

pub back_statement : (o : ℕ) (t : Theory) → HasPlainNames t → (s : Statement)
    → IsStatementOver t.operators (renamed_statement (by_name (name_on o)) s)
    → renamed_statement (by_name (name_on o)) s ≡ s
back_statement o t p (Equation a b) w = λ i. Equation (back_tree o t p a w.0.1 i) (back_tree o t p b w.1.1 i)
back_statement o t p (Generated s fs) w =
    ap (Generated s) (back_operators o t p fs
    (λ g c. (All-contains (λ f. IsKnown t.operators f × (f.range ≡ s)) (map (by_name
    (name_on o)).operator fs) g w c).0))
back_statement o t p (Partitioned s fs) w =
    ap (Partitioned s) (back_operators o t p fs
    (λ g c. (All-contains (λ f. IsKnown t.operators f × Contains f.domain s) (map (by_name (name_on o)).operator fs) g w
    c).0))
