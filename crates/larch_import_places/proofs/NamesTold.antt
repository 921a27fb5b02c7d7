-- What the test for named sorts tells.
use Rattle.std.proofs.Common.{◌≡◌, ℕ, ◌&&◌, true, List, [], ◌∷◌, All, Option, Some, None, refl, ap}
use Rattle.std.specs.Prelude.{is_some}
use Rattle.std.specs.List.{list_all}
use Rattle.std.proofs.lemmas.List.Elements.{All-contains}
use Rattle.larch_base.proofs.Bools.{both_true, and_both}
use Rattle.larch_term.specs.Operator.{PlainOperator}
use Rattle.larch_term.specs.Tree.{Tree, Forest, var, app, none, more, forest_of}
use Rattle.larch_term.specs.declared.statement.Statement.{Statement}
use Rattle.larch_term.specs.declared.statement.Statement.TheVariants.{Equation, Generated, Partitioned}
use Rattle.larch_term.specs.declared.statement.Theory.{Theory}
use Rattle.larch_import_names.specs.Names.{IsNamed, named_sort}
use Rattle.larch_import_names.specs.Sorted.{OfOperator, OfTerm, OfTerms, OfStatement, OfTheory}
use Rattle.larch_import_names.specs.declared.pairs.Renaming.{Renaming}
use Rattle.larch_import_places.specs.NamedSorts.{names_sort, names_operator, names_term, names_terms, names_statement}
use Rattle.larch_import_places.specs.NamedSorts.{names_theory}
use Rattle.larch_import_places.proofs.Found.{each_passes, passes_all}

-- arguments as a list
pub terms_named : (by : Renaming) (ts : List Tree) → names_terms by (forest_of ts) ≡ list_all (names_term by) ts
terms_named by [] = refl
terms_named by (t ∷ ts) = ap (λ b. names_term by t && b) (terms_named by ts)

some_told : {X : Type 0} (o : Option X) → is_some o ≡ true → (x : X) × (o ≡ Some x)
some_told None e = cc
some_told (Some x) e = (x, refl)

module _ (by : Renaming) where
  sort_told : (s : List ℕ) → names_sort by s ≡ true → IsNamed by s
  sort_told s e = some_told (named_sort by s) e

  operator_told : (f : PlainOperator) → names_operator by f ≡ true → OfOperator (IsNamed by) f
  operator_told f e =
      let p = both_true (list_all (names_sort by) f.domain) (names_sort by f.range) e in
      (each_passes (names_sort by) (IsNamed by) sort_told f.domain p.0, sort_told f.range p.1)

  operators_told : (fs : List PlainOperator) → list_all (names_operator by) fs ≡ true
      → All (OfOperator (IsNamed by)) fs
  operators_told fs e = each_passes (names_operator by) (OfOperator (IsNamed by)) operator_told fs e

  mutual
    term_told : (t : Tree) → names_term by t ≡ true → OfTerm (IsNamed by) t
    term_told (var n s) e = sort_told s e
    term_told (app f ts) e =
        let p = both_true (names_operator by f) (names_terms by ts) e in
        (operator_told f p.0, terms_told ts p.1)

    terms_told : (ts : Forest) → names_terms by ts ≡ true → OfTerms (IsNamed by) ts
    terms_told none e = tt
    terms_told (more t ts) e =
        let p = both_true (names_term by t) (names_terms by ts) e in
        (term_told t p.0, terms_told ts p.1)

  statement_told : (s : Statement) → names_statement by s ≡ true → OfStatement (IsNamed by) s
  statement_told (Equation l r) e =
      let p = both_true (names_term by l) (names_term by r) e in
      (term_told l p.0, term_told r p.1)
  statement_told (Generated s fs) e =
      let p = both_true (names_sort by s) (list_all (names_operator by) fs) e in
      (sort_told s p.0, operators_told fs p.1)
  statement_told (Partitioned s fs) e =
      let p = both_true (names_sort by s) (list_all (names_operator by) fs) e in
      (sort_told s p.0, operators_told fs p.1)

  pub theory_told : (t : Theory) → names_theory by t ≡ true → OfTheory (IsNamed by) t
  theory_told t e =
      let p = both_true (list_all (names_operator by) t.operators) (list_all (names_statement by) t.statements) e in
      record {
        operators = operators_told t.operators p.0;
        statements = each_passes (names_statement by) (OfStatement (IsNamed by)) statement_told t.statements p.1;
      }

-- ---- where sorts are named the test tells so

module _ (by : Renaming) where
  sort_back : (s : List ℕ) → IsNamed by s → names_sort by s ≡ true
  sort_back s n = ap is_some n.1

  operator_back : (f : PlainOperator) → OfOperator (IsNamed by) f → names_operator by f ≡ true
  operator_back f n =
      and_both (list_all (names_sort by) f.domain) (names_sort by f.range)
      (passes_all (names_sort by) f.domain (λ s c. sort_back s (All-contains (IsNamed by) f.domain s n.0 c)))
      (sort_back f.range n.1)

  operators_back : (fs : List PlainOperator) → All (OfOperator (IsNamed by)) fs
      → list_all (names_operator by) fs ≡ true
  operators_back fs n =
      passes_all (names_operator by) fs
      (λ f c. operator_back f (All-contains (OfOperator (IsNamed by)) fs f n c))

  mutual
    term_back : (t : Tree) → OfTerm (IsNamed by) t → names_term by t ≡ true
    term_back (var n s) p = sort_back s p
    term_back (app f ts) p =
        and_both (names_operator by f) (names_terms by ts) (operator_back f p.0) (terms_back ts p.1)

    terms_back : (ts : Forest) → OfTerms (IsNamed by) ts → names_terms by ts ≡ true
    terms_back none p = refl
    terms_back (more t ts) p = and_both (names_term by t) (names_terms by ts) (term_back t p.0) (terms_back ts p.1)

  statement_back : (s : Statement) → OfStatement (IsNamed by) s → names_statement by s ≡ true
  statement_back (Equation l r) p = and_both (names_term by l) (names_term by r) (term_back l p.0) (term_back r p.1)
  statement_back (Generated s fs) p =
      and_both (names_sort by s) (list_all (names_operator by) fs) (sort_back s p.0) (operators_back fs p.1)
  statement_back (Partitioned s fs) p =
      and_both (names_sort by s) (list_all (names_operator by) fs) (sort_back s p.0) (operators_back fs p.1)

  pub theory_back : (t : Theory) → OfTheory (IsNamed by) t → names_theory by t ≡ true
  theory_back t n =
      and_both (list_all (names_operator by) t.operators) (list_all (names_statement by) t.statements)
      (operators_back t.operators n.operators)
      (passes_all (names_statement by) t.statements
      (λ s c. statement_back s (All-contains (OfStatement (IsNamed by)) t.statements s n.statements c)))
