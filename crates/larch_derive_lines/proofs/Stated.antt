-- Lines that say what is stated of the theory or of all theories, and lines that make an equation of an equality.
use Rattle.std.proofs.Common.{rules, ◌≡◌, ◌-◌, inr, ℕ, Bool, true, false, cond, List, [], ◌∷◌, Option, Some, None, refl}
use Rattle.std.proofs.Common.{sym, ◌∙◌, ap}
use Rattle.std.proofs.Common.{subst}
use Rattle.std.specs.Option.{option_and_then}
use Rattle.std.specs.List.{slice_get}
use Rattle.std.proofs.lemmas.Bool.{cond-true}
use Rattle.std.proofs.lemmas.Option.{option_and_then_some, cond_some}
use Rattle.std.proofs.lemmas.List.Elements.{All-nil, All-cons, All-contains}
use Rattle.larch_term.proofs.BaseMembers.{got_contains}
use Rattle.larch_term.proofs.BaseOptions.{some_inj}
use Rattle.larch_term.specs.BaseByNumber.{numbered}
use Rattle.larch_term.specs.BuiltIn.{built_in, bool_sort}
use Rattle.larch_term.specs.Equality.{same_statement}
use Rattle.larch_term.specs.Operator.{PlainOperator}
use Rattle.larch_term.specs.Sorts.{sort_of, IsTermOver}
use Rattle.larch_term.specs.Statement.{IsStatementOver, statement_zero}
use Rattle.larch_term.specs.Tree.{Tree, app, none, more}
use Rattle.larch_term.specs.Truth.{truth}
use Rattle.larch_term.specs.declared.built_in.BuiltIn.TheVariants.{Equal, True, False}
use Rattle.larch_term.specs.declared.statement.Statement.{Statement}
use Rattle.larch_term.specs.declared.statement.Statement.TheVariants.{Equation, Generated, Partitioned}
use Rattle.larch_term.specs.declared.statement.Theory.{Theory}
use Rattle.larch_term.proofs.Decided.{statement_Decides}
use Rattle.larch_derive.specs.CalculusFormula.{equality}
use Rattle.larch_derive.proofs.CalculusIdentities.{identity_over}
use Rattle.larch_derive.proofs.CalculusSorted.{sides_over}
use Rattle.larch_derive.specs.TablesStatement.{IsIdentityStatement}
use Rattle.larch_derive.specs.TablesTables.{built_in_rows}
use Rattle.larch_derive.proofs.TablesIdentities.{Every, every_at, at_place, row_identity}
use Rattle.larch_derive.specs.TablesRow.{PlainRow}
use Rattle.larch_derive.specs.CertificateLineLine.TheVariants.{Axiom, Row, Equal as EqualLine}
use Rattle.larch_derive.specs.CertificateTextLineText.{IsWord, FitLine}
use Rattle.larch_derive.specs.CertificateTextParts.{IsSmall}
use Rattle.larch_derive.specs.VerifyMeaningEvents.{State}
use Rattle.larch_derive.specs.VerifyMeaningRules.{row_says, stated_equal}
use Rattle.larch_derive.specs.VerifyMeaningRun.{judge}
use Rattle.larch_derive.specs.declared.builder.Builder.{Builder}
use Rattle.larch_derive.specs.Builder.{IsPushed}
use Rattle.larch_derive.specs.OpenBox.{in_lines}
use Rattle.larch_derive.specs.Predicates.{operators_at, written_term, written_statement, SaysIn, HasNoBadLine}
use Rattle.larch_derive.specs.Predicates.{HasStatement, Extends}
use Rattle.larch_derive.proofs.Pushing.{own_says, pushed_says, pushed_extends}
use Rattle.larch_derive.proofs.Unchanged.{own_in_lines}
use Rattle.larch_derive.specs.Words.{IsWordedOperator, IsWordedStatement, IsWordedTheory}
use Rattle.larch_derive_lines.specs.Rules.{IsWordedSort}

-- ---- axiom, row

zero_worded : IsWordedStatement statement_zero
zero_worded = (
  refl,
  All-cons IsWordedOperator (built_in True bool_sort) (built_in False bool_sort ∷ []) (tt, refl)
      (All-cons IsWordedOperator (built_in False bool_sort) [] (tt, refl) (All-nil IsWordedOperator)),
)

-- what is stated of a theory in words is in words
pub stated_worded : (t : Theory) (k : ℕ) (s : Statement) → IsWordedTheory t
    → slice_get (statement_zero ∷ t.statements) k ≡ Some s → IsWordedStatement s
stated_worded t k s w e =
    All-contains IsWordedStatement (statement_zero ∷ t.statements) s
    (All-cons IsWordedStatement statement_zero t.statements zero_worded w.1)
    (got_contains (statement_zero ∷ t.statements) k s e)

pub axiom_says : (a b : Builder) (k n : ℕ) (s : Statement) → IsPushed a b (Axiom k) n → HasNoBadLine a
    → slice_get (statement_zero ∷ a.theory.statements) k ≡ Some s → IsStatementOver a.theory.operators s
    → HasStatement b n s
unfolding HasNoBadLine
axiom_says a b k n s p (st, h) e w =
    own_says a b (Axiom k) n st s p h e w p.numbers (stated_worded a.theory k s h.worded e)

pub axiom_extends : (a b : Builder) (k n : ℕ) (s : Statement) → IsPushed a b (Axiom k) n → HasNoBadLine a
    → slice_get (statement_zero ∷ a.theory.statements) k ≡ Some s → Extends a b
unfolding HasNoBadLine
axiom_extends a b k n s p (st, h) e = pushed_extends a b (Axiom k) n st s p h.runs e p.numbers

identity_is_over : (fs : List PlainOperator) (s : Statement) → IsIdentityStatement s → IsStatementOver fs s
identity_is_over fs (Equation l r) i = identity_over fs i
identity_is_over fs (Generated s gs) i = absurd i
identity_is_over fs (Partitioned s gs) i = absurd i

unsorted : (b : Bool) (x y : Statement) → cond b None (Some x) ≡ Some y → x ≡ y
unsorted true x y e = cc
unsorted false x y e = some_inj e

row_over : (fs : List PlainOperator) (k : ℕ) (z : Option (List ℕ)) (s : Statement) → row_says k z ≡ Some s
    → IsStatementOver fs s
row_over fs k None s e =
    option_and_then_some (λ row. cond row.sorted None (Some row.given)) (numbered (built_in_rows bool_sort) k) s e
    (λ row f g. subst (IsStatementOver fs) (unsorted row.sorted row.given s g)
    (identity_is_over fs row.given (row_identity bool_sort k row f)))
row_over fs k (Some z) s e =
    option_and_then_some (λ row. cond row.sorted (Some row.given) None) (numbered (built_in_rows z) k) s e
    (λ row f g. subst (IsStatementOver fs) (cond_some row.sorted row.given s g).1
    (identity_is_over fs row.given (row_identity z k row f)))

-- the rows at a sort that is a word are in words
rows_worded : (z : List ℕ) → IsWord z → Every (λ row. IsWordedStatement row.given) (built_in_rows z)
rows_worded z w = search (rules, w)

row_at_worded : (z : List ℕ) (k : ℕ) (row : PlainRow) → IsWord z → numbered (built_in_rows z) k ≡ Some row
    → IsWordedStatement row.given
row_at_worded z k row w e =
    every_at (λ r. IsWordedStatement r.given) (built_in_rows z) (k - 1) row (rows_worded z w)
    (at_place (built_in_rows z) k row e)

row_worded : (k : ℕ) (z : Option (List ℕ)) (s : Statement) → row_says k z ≡ Some s → IsWordedSort z
    → IsWordedStatement s
row_worded k None s e w =
    option_and_then_some (λ row. cond row.sorted None (Some row.given)) (numbered (built_in_rows bool_sort) k) s e
    (λ row f g. subst IsWordedStatement (unsorted row.sorted row.given s g) (row_at_worded bool_sort k row refl f))
row_worded k (Some z) s e w =
    option_and_then_some (λ row. cond row.sorted (Some row.given) None) (numbered (built_in_rows z) k) s e
    (λ row f g. subst IsWordedStatement (cond_some row.sorted row.given s g).1 (row_at_worded z k row w f))

row_fits : (k : ℕ) (z : Option (List ℕ)) → IsSmall k → IsWordedSort z → FitLine (Row k z)
row_fits k None n w = n
row_fits k (Some z) n w = (n, w)

pub row_line_says : (a b : Builder) (k n : ℕ) (z : Option (List ℕ)) (s : Statement) → IsPushed a b (Row k z) n
    → HasNoBadLine a → row_says k z ≡ Some s → IsWordedSort z → HasStatement b n s
unfolding HasNoBadLine
row_line_says a b k n z s p (st, h) e w =
    own_says a b (Row k z) n st s p h e (row_over a.theory.operators k z s e) (row_fits k z p.numbers w)
    (row_worded k z s e w)

pub row_line_extends : (a b : Builder) (k n : ℕ) (z : Option (List ℕ)) (s : Statement) → IsPushed a b (Row k z) n
    → HasNoBadLine a → row_says k z ≡ Some s → IsWordedSort z → Extends a b
unfolding HasNoBadLine
row_line_extends a b k n z s p (st, h) e w =
    pushed_extends a b (Row k z) n st s p h.runs e (row_fits k z p.numbers w)

-- ---- equal

-- where the operator is equality at the sort of both sides, an equation that says so of them is one of them
equal_at : (f g : PlainOperator) (x y : Tree) → f ≡ built_in Equal (sort_of x) → g ≡ built_in True bool_sort
    → stated_equal (Equation (app f (more x (more y none))) (app g none)) ≡ Some (Equation x y)
equal_at f g x y e d =
    cond-true (same_statement (Equation (app f (more x (more y none))) (app g none))
    (Equation (equality (sort_of x) x y) truth)) (Some (Equation x y)) None
    ((statement_Decides (Equation (app f (more x (more y none))) (app g none))
    (Equation (equality (sort_of x) x y) truth)).1
    (λ i. Equation (app (e i) (more x (more y none))) (app (d i) none)))

equal_over : (a : Builder) (st : State) (m : ℕ) (s : List ℕ) (x y : Tree)
    → SaysIn a.theory a.boxes a.lines st m (Equation (equality s x y) truth)
    → IsTermOver (operators_at a.theory st) (written_term a.boxes x) × (sort_of (written_term a.boxes x) ≡ s)
    × (IsTermOver (operators_at a.theory st) (written_term a.boxes y) × (sort_of (written_term a.boxes y) ≡ s))
equal_over a st m s x y h =
    let built =
    own_in_lines a.theory a.boxes (built_in Equal s) h.stand.plain h.stand.others (inr (Equal, (s, refl))) in
    let w =
    subst (λ f. IsTermOver (operators_at a.theory st)
    (app f (more (written_term a.boxes x) (more (written_term a.boxes y) none)))) built h.over.0 in
    let both = sides_over (operators_at a.theory st) (built_in Equal s) s s (written_term a.boxes x)
    (written_term a.boxes y) refl w in
    (both.0.0, both.0.1, both.1)

equal_judged : (a : Builder) (st : State) (m : ℕ) (s : List ℕ) (x y : Tree)
    → SaysIn a.theory a.boxes a.lines st m (Equation (equality s x y) truth)
    → judge a.theory st.history (EqualLine m) ≡ Some (written_statement a.boxes (Equation x y))
equal_judged a st m s x y h =
    let sort = (equal_over a st m s x y h).1 in
    let built =
    own_in_lines a.theory a.boxes (built_in Equal s) h.stand.plain h.stand.others (inr (Equal, (s, refl))) in
    let true_ = own_in_lines a.theory a.boxes (built_in True bool_sort) h.stand.plain h.stand.others
    (inr (True, (bool_sort, refl))) in
    ap (option_and_then stated_equal) h.says
    ∙ equal_at (in_lines a.boxes (built_in Equal s)) (in_lines a.boxes (built_in True bool_sort))
    (written_term a.boxes x)
    (written_term a.boxes y) (built ∙ ap (built_in Equal) (sym sort)) true_

pub equal_line_says : (a b : Builder) (m n : ℕ) (s : List ℕ) (x y : Tree) → IsPushed a b (EqualLine m) n
    → HasStatement a m (Equation (equality s x y) truth) → HasStatement b n (Equation x y)
unfolding HasStatement
equal_line_says a b m n s x y p (st, h) =
    let w = equal_over a st m s x y h in
    pushed_says a b (EqualLine m) n st (Equation x y) p h.stand (equal_judged a st m s x y h)
    (w.0, w.2.0, w.1 ∙ sym w.2.1) p.numbers (h.words.0.1.0, h.words.0.1.1.0)

pub equal_line_extends : (a b : Builder) (m n : ℕ) (s : List ℕ) (x y : Tree) → IsPushed a b (EqualLine m) n
    → HasStatement a m (Equation (equality s x y) truth) → Extends a b
unfolding HasStatement
equal_line_extends a b m n s x y p (st, h) =
    pushed_extends a b (EqualLine m) n st (written_statement a.boxes (Equation x y)) p h.stand.runs
    (equal_judged a st m s x y h) p.numbers
