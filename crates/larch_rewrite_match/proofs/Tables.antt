-- Built-in rows that are found by the sorts and the heads of terms.
use Rattle.std.specs.Prelude.{◌≡◌, ◌↔◌, ℕ, IsTrue, Bool, true, false, cond, All, Contains, IfSome, List, []}
use Rattle.std.specs.Prelude.{bytes_eq, Some, refl}
use Rattle.std.proofs.Common.{ap, sym, subst, ◌∙◌}
use Rattle.std.proofs.lemmas.List.Elements.{All-contains, All-weaker}
use Rattle.std.proofs.lemmas.Slice.Eq.{bytes_eq-Decides}
use Rattle.std.specs.List.{flat_map}
use Rattle.std.specs.Map.{lookup}
use Rattle.larch_rewrite_meaning.specs.Rewriting.{rewrite_of, sort_at, tries_of}
use Rattle.larch_store.specs.Numbered.{Numbered, several, term_of, terms_of}
use Rattle.larch_store.specs.SharedView.{view_shared}
use Rattle.larch_store.specs.declared.shared.SharedNode.TheVariants.{Variable, Application}
use Rattle.larch_term.specs.BuiltIn.{IsBuiltIn}
use Rattle.larch_term.specs.Operator.{PlainOperator}
use Rattle.larch_term.specs.Tree.{Forest, app, var}
use Rattle.larch_rewrite_match.specs.Heads.{Suffice}
use Rattle.larch_rewrite_match.specs.Rows.{AreRowTables, AreRowsAt}
use Rattle.larch_rewrite_match.specs.Rule.{IsSaidByRow, all_sides}
use Rattle.larch_rewrite_match.specs.Search.{AreRowsFor}
use Rattle.larch_rewrite_match.specs.declared.rule.RewriteRule.{RewriteRule}
use Rattle.larch_rewrite_match.proofs.RowSteps.{rows_of_built_in, rows_of_other}

pub no_tables : (tables : List (List ℕ × List RewriteRule)) → tables ≡ [] → AreRowTables tables
no_tables tables e = subst AreRowTables (sym e) (λ s. tt)

put_at : (old new : List (List ℕ × List RewriteRule)) (s z : List ℕ) (rows : List RewriteRule) (b : Bool)
    → bytes_eq s z ≡ b
    → lookup (bytes_eq z) new ≡ cond b (Some rows) (lookup (bytes_eq z) old) → AreRowsAt s rows
    → IfSome (lookup (bytes_eq z) old) (AreRowsAt z) → IfSome (lookup (bytes_eq z) new) (AreRowsAt z)
put_at old new s z rows true q e r h =
    subst (λ o. IfSome o (AreRowsAt z)) (sym e) (subst (λ y. AreRowsAt y rows) ((bytes_eq-Decides s z).0 q) r)
put_at old new s z rows false q e r h = subst (λ o. IfSome o (AreRowsAt z)) (sym e) h

-- the rows at one sort more
pub table_put : (old new : List (List ℕ × List RewriteRule)) (s : List ℕ) (rows : List RewriteRule)
    → ((z : List ℕ) → lookup (bytes_eq z) new ≡ cond (bytes_eq s z) (Some rows) (lookup (bytes_eq z) old))
    → AreRowsAt s rows → AreRowTables old → AreRowTables new
table_put old new s rows e r h = λ z. put_at old new s z rows (bytes_eq s z) refl (e z) r (h z)

pub no_rows_for_variables : (x : Numbered) (k z : ℕ) (n s : List ℕ) (rows : List RewriteRule)
    → view_shared k z (Variable n s) ≡ x
    → rows ≡ [] → AreRowsFor rows (term_of x)
no_rows_for_variables x k z n s rows v e =
    subst (λ y. AreRowsFor rows (term_of y)) v
    (ap (λ rs. rewrite_of (flat_map tries_of (all_sides rs)) (var n s)) e)

pub no_rows : (x : Numbered) (k z : ℕ) (f : PlainOperator) (cs : List Numbered) (rows : List RewriteRule) (b : Bool)
    → view_shared k z (Application f cs) ≡ x → IsTrue b ↔ IsBuiltIn f → b ≡ false → rows ≡ []
    → AreRowsFor rows (term_of x)
no_rows x k z f cs rows b v i q e =
    subst (λ y. AreRowsFor rows (term_of y)) v
    (ap (λ rs. rewrite_of (flat_map tries_of (all_sides rs)) (app f (terms_of (several cs)))) e
    ∙ ap (λ rs. rewrite_of rs (app f (terms_of (several cs)))) (rows_of_other f (terms_of (several cs)) b i q))

under : (tables : List (List ℕ × List RewriteRule)) (s : List ℕ) (all : List RewriteRule)
    → Some all ≡ lookup (bytes_eq s) tables
    → AreRowTables tables → AreRowsAt s all
under tables s all e h = subst (λ o. IfSome o (AreRowsAt s)) (sym e) (h s)

pub rows_under : (tables : List (List ℕ × List RewriteRule)) (x : Numbered) (k z : ℕ) (f : PlainOperator)
    (cs : List Numbered)
    (rows all : List RewriteRule) (s : List ℕ) (b : Bool) → view_shared k z (Application f cs) ≡ x
    → IsTrue b ↔ IsBuiltIn f
    → b ≡ true → s ≡ sort_at f → Some all ≡ lookup (bytes_eq s) tables → AreRowTables tables
    → ((ts : Forest) → Suffice rows all (app f ts)) → AreRowsFor rows (term_of x)
rows_under tables x k z f cs rows all s b v i q e l h few =
    subst (λ y. AreRowsFor rows (term_of y)) v
    (few (terms_of (several cs))
    ∙ ap (λ rs. rewrite_of rs (app f (terms_of (several cs))))
    (rows_of_built_in all f (terms_of (several cs)) b i q
    (subst (λ y. AreRowsAt y all) e (under tables s all l h)).0))

pub rows_said : (tables : List (List ℕ × List RewriteRule)) (rows all : List RewriteRule) (s : List ℕ)
    → Some all ≡ lookup (bytes_eq s) tables → AreRowTables tables → All (Contains all) rows → All IsSaidByRow rows
rows_said tables rows all s l h among =
    All-weaker (Contains all) IsSaidByRow
    (λ r c. All-contains IsSaidByRow all r (under tables s all l h).1 c) rows among
