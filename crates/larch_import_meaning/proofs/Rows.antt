-- The rows of built-in operators rename to rows.
use Rattle.std.proofs.Common.{◌≡◌, ℕ, Bool, true, false, cond, List}
use Rattle.std.proofs.Common.{[], ◌∷◌, map, Option, Some, None, option_map}
use Rattle.std.proofs.Common.{sym, ◌∙◌, ap}
use Rattle.std.specs.Prelude.{codes, option_and_then}
use Rattle.std.proofs.lemmas.Option.{option_and_then_some}
use Rattle.larch_base.specs.ByNumber.{numbered}
use Rattle.larch_term.specs.BuiltIn.{bool_sort, built_in}
use Rattle.larch_term.specs.Tree.{var, app, none, more}
use Rattle.larch_term.specs.Truth.{truth}
use Rattle.larch_term.specs.declared.built_in.BuiltIn.{BuiltIn}
use Rattle.larch_term.specs.declared.built_in.BuiltIn.TheVariants.{True, False, Not, And, Or, Implies, Iff}
use Rattle.larch_term.specs.declared.built_in.BuiltIn.TheVariants.{Equal, Unequal, If}
use Rattle.larch_term.specs.declared.statement.Statement.{Statement}
use Rattle.larch_verify_meaning.specs.CalculusFormula.{falsity}
use Rattle.larch_verify_meaning.specs.RenamingRenaming.{Renaming, rename_tree, renamed_statement, KeepsBuiltIns}
use Rattle.larch_verify_meaning.specs.Rules.{row_says}
use Rattle.larch_verify_meaning.specs.TablesRow.{PlainRow}
use Rattle.larch_verify_meaning.specs.TablesSpelling.{x, y, a, b}
use Rattle.larch_verify_meaning.specs.TablesTables.{at_bool, at_each, built_in_rows}
use Rattle.larch_verify_law.proofs.MovedTests.{numbered_mapped}

abbrev renamed_row : Renaming → PlainRow → PlainRow
renamed_row r row =
    record {
      sorted = row.sorted;
      given = renamed_statement r row.given;
      consequences = map (renamed_statement r) row.consequences;
    }

-- an equation that is offered, renamed
offered : {X Y : Type 0} (f : X → Y) (b : Bool) (y x : X) → cond b (Some y) None ≡ Some x
    → cond b (Some (f y)) None ≡ Some (f x)
offered f true y x e = ap (option_map f) e
offered f false y x e = cc

at_bool_offered : {X Y : Type 0} (f : X → Y) (b : Bool) (y x : X) → cond b None (Some y) ≡ Some x
    → cond b None (Some (f y)) ≡ Some (f x)
at_bool_offered f true y x e = cc
at_bool_offered f false y x e = ap (option_map f) e

module _ (r : Renaming) (k : KeepsBuiltIns r) where
  at_bool_sort : (b : BuiltIn) → r.operator (built_in b bool_sort) ≡ built_in b bool_sort
  at_bool_sort b = k.operators b bool_sort ∙ ap (built_in b) k.truth_values

  x_at : rename_tree r x ≡ x
  x_at = ap (var (codes "x")) k.truth_values

  y_at : rename_tree r y ≡ y
  y_at = ap (var (codes "y")) k.truth_values

  truth_at : rename_tree r truth ≡ truth
  truth_at = ap (λ f. app f none) (at_bool_sort True)

  falsity_at : rename_tree r falsity ≡ falsity
  falsity_at = ap (λ f. app f none) (at_bool_sort False)

  -- the rows at a sort become those at its new one
  rows_renamed : (s : List ℕ) → map (renamed_row r) (built_in_rows s) ≡ built_in_rows (r.sort s)
  rows_renamed s = λ i.
      at_bool (app (at_bool_sort Not i) (more (truth_at i) none)) (falsity_at i) ∷
      at_bool (app (at_bool_sort Not i) (more (falsity_at i) none)) (truth_at i) ∷
      at_bool (app (at_bool_sort Not i) (more (app (at_bool_sort Not i) (more (x_at i) none)) none)) (x_at i) ∷
      at_bool (app (at_bool_sort And i) (more (truth_at i) (more (x_at i) none))) (x_at i) ∷
      at_bool (app (at_bool_sort And i) (more (x_at i) (more (truth_at i) none))) (x_at i) ∷
      at_bool (app (at_bool_sort And i) (more (falsity_at i) (more (x_at i) none))) (falsity_at i) ∷
      at_bool (app (at_bool_sort And i) (more (x_at i) (more (falsity_at i) none))) (falsity_at i) ∷
      at_bool (app (at_bool_sort And i) (more (x_at i) (more (x_at i) none))) (x_at i) ∷
      at_bool (app (at_bool_sort Or i) (more (truth_at i) (more (x_at i) none))) (truth_at i) ∷
      at_bool (app (at_bool_sort Or i) (more (x_at i) (more (truth_at i) none))) (truth_at i) ∷
      at_bool (app (at_bool_sort Or i) (more (falsity_at i) (more (x_at i) none))) (x_at i) ∷
      at_bool (app (at_bool_sort Or i) (more (x_at i) (more (falsity_at i) none))) (x_at i) ∷
      at_bool (app (at_bool_sort Or i) (more (x_at i) (more (x_at i) none))) (x_at i) ∷
      at_bool (app (at_bool_sort Implies i) (more (truth_at i) (more (x_at i) none))) (x_at i) ∷
      at_bool (app (at_bool_sort Implies i) (more (falsity_at i) (more (x_at i) none))) (truth_at i) ∷
      at_bool (app (at_bool_sort Implies i) (more (x_at i) (more (truth_at i) none))) (truth_at i) ∷
      at_bool (app (at_bool_sort Implies i) (more (x_at i) (more (falsity_at i) none))) (app (at_bool_sort Not i)
      (more (x_at i) none)) ∷
      at_bool (app (at_bool_sort Implies i) (more (x_at i) (more (x_at i) none))) (truth_at i) ∷
      at_bool (app (at_bool_sort Iff i) (more (truth_at i) (more (x_at i) none))) (x_at i) ∷
      at_bool (app (at_bool_sort Iff i) (more (x_at i) (more (truth_at i) none))) (x_at i) ∷
      at_bool (app (at_bool_sort Iff i) (more (falsity_at i) (more (x_at i) none))) (app (at_bool_sort Not i) (more
      (x_at i) none)) ∷
      at_bool (app (at_bool_sort Iff i) (more (x_at i) (more (falsity_at i) none))) (app (at_bool_sort Not i) (more
      (x_at i) none)) ∷
      at_bool (app (at_bool_sort Iff i) (more (x_at i) (more (x_at i) none))) (truth_at i) ∷
      at_each (app (k.operators Equal s i) (more (a (r.sort s)) (more (a (r.sort s)) none))) (truth_at i) ∷
      at_bool (app (at_bool_sort Equal i) (more (x_at i) (more (y_at i) none))) (app (at_bool_sort Iff i) (more (x_at
      i) (more (y_at i) none))) ∷
      at_each (app (k.operators Unequal s i) (more (a (r.sort s)) (more (b (r.sort s)) none))) (app (at_bool_sort Not
      i) (more (app (k.operators Equal s i) (more (a (r.sort s)) (more (b (r.sort s)) none))) none)) ∷
      at_each (app (k.operators If s i) (more (truth_at i) (more (a (r.sort s)) (more (b (r.sort s)) none)))) (a
      (r.sort s)) ∷
      at_each (app (k.operators If s i) (more (falsity_at i) (more (a (r.sort s)) (more (b (r.sort s)) none)))) (b
      (r.sort s)) ∷
      at_each (app (k.operators If s i) (more (x_at i) (more (a (r.sort s)) (more (a (r.sort s)) none)))) (a (r.sort
      s)) ∷
      at_bool (app (at_bool_sort And i) (more (x_at i) (more (app (at_bool_sort Not i) (more (x_at i) none)) none)))
      (falsity_at i) ∷
      at_bool (app (at_bool_sort And i) (more (app (at_bool_sort Not i) (more (x_at i) none)) (more (x_at i) none)))
      (falsity_at i) ∷
      at_bool (app (at_bool_sort Or i) (more (x_at i) (more (app (at_bool_sort Not i) (more (x_at i) none)) none)))
      (truth_at i) ∷
      at_bool (app (at_bool_sort Or i) (more (app (at_bool_sort Not i) (more (x_at i) none)) (more (x_at i) none)))
      (truth_at i) ∷
      at_each (app (k.operators Equal s i) (more (a (r.sort s)) (more (b (r.sort s)) none))) (app (k.operators Equal s
      i) (more (b (r.sort s)) (more (a (r.sort s)) none))) ∷
      at_bool (app (at_bool_sort Implies i) (more (app (at_bool_sort And i) (more (x_at i) (more (y_at i) none)))
      (more (x_at i) none))) (truth_at i) ∷
      at_bool (app (at_bool_sort Implies i) (more (app (at_bool_sort And i) (more (x_at i) (more (y_at i) none)))
      (more (y_at i) none))) (truth_at i) ∷
      at_bool (app (at_bool_sort Implies i) (more (x_at i) (more (app (at_bool_sort Or i) (more (x_at i) (more (y_at
      i) none))) none))) (truth_at i) ∷
      at_bool (app (at_bool_sort Implies i) (more (y_at i) (more (app (at_bool_sort Or i) (more (x_at i) (more (y_at
      i) none))) none))) (truth_at i) ∷
      at_bool (app (at_bool_sort Or i) (more (app (at_bool_sort Implies i) (more (x_at i) (more (y_at i) none))) (more
      (x_at i) none))) (truth_at i) ∷
      at_bool (app (at_bool_sort Implies i) (more (y_at i) (more (app (at_bool_sort Implies i) (more (x_at i) (more
      (y_at i) none))) none))) (truth_at i) ∷
      []

  row_renamed : (s : List ℕ) (n : ℕ) (row : PlainRow) → numbered (built_in_rows s) n ≡ Some row
      → numbered (built_in_rows (r.sort s)) n ≡ Some (renamed_row r row)
  row_renamed s n row e =
      sym (ap (λ rows. numbered rows n) (rows_renamed s)) ∙ numbered_mapped (renamed_row r) (built_in_rows s) n row e

  pub rows_say : (n : ℕ) (s : Option (List ℕ)) (z : Statement) → row_says n s ≡ Some z
      → row_says n (option_map r.sort s) ≡ Some (renamed_statement r z)
  rows_say n None z e =
      option_and_then_some (λ row. cond row.sorted None (Some row.given)) (numbered (built_in_rows bool_sort) n) z e
      (λ row p q.
      ap (option_and_then (λ w. cond w.sorted None (Some w.given)))
      (ap (λ s. numbered (built_in_rows s) n) (sym k.truth_values) ∙ row_renamed bool_sort n row p)
      ∙ at_bool_offered (renamed_statement r) row.sorted row.given z q)
  rows_say n (Some s) z e =
      option_and_then_some (λ row. cond row.sorted (Some row.given) None) (numbered (built_in_rows s) n) z e
      (λ row p q.
      ap (option_and_then (λ w. cond w.sorted (Some w.given) None)) (row_renamed s n row p)
      ∙ offered (renamed_statement r) row.sorted row.given z q)
