-- No sort of a theory is longer than the longest.
use Rattle.std.proofs.Common.{ℕ, ◌≤◌, inl, inr, List, [], ◌∷◌, length, All, Contains, subst, arith}
use Rattle.std.specs.Prelude.{fold}
use Rattle.larch_base.proofs.Lists.{all_from}
use Rattle.larch_base.proofs.Members.{contains_cases, contains_none}
use Rattle.larch_term.specs.BuiltIn.{bool_sort}
use Rattle.larch_term.specs.Operator.{PlainOperator}
use Rattle.larch_term.specs.Tree.{Tree, Forest, var, app, none, more}
use Rattle.larch_term.specs.declared.statement.Statement.{Statement}
use Rattle.larch_term.specs.declared.statement.Statement.TheVariants.{Equation, Generated, Partitioned}
use Rattle.larch_term.specs.declared.statement.Theory.{Theory}
use Rattle.larch_import_names.specs.Sorted.{OfOperator, OfTerm, OfTerms, OfStatement, OfTheory}
use Rattle.larch_import_names.specs.declared.pairs.Renaming.{Renaming}
use Rattle.larch_import_names.specs.declared.pairs.SortPair.{SortPair}
use Rattle.larch_import_meaning.specs.Lengths.{with_sort, with_operator, with_term, with_terms, with_statement}
use Rattle.larch_import_meaning.specs.Lengths.{with_theory, with_pair, longest}

-- the sort has at most so many letters
abbrev pub IsShort : ℕ → List ℕ → Type 0
IsShort m s = length s ≤ m

-- what is the greatest with something is as great as it was before, and as what holds of that thing says
abbrev Bounds : {X : Type 0} → (ℕ → X → ℕ) → (ℕ → X → Type 0) → Type 0
Bounds {X} f P = (n m : ℕ) (x : X) → f n x ≤ m → (n ≤ m) × P m x

each_bounded : {X : Type 0} (f : ℕ → X → ℕ) (P : ℕ → X → Type 0) → Bounds f P → (n m : ℕ) (xs : List X)
    → fold f n xs ≤ m → (n ≤ m) × ((x : X) → Contains xs x → P m x)
each_bounded f P b n m [] le = (le, λ x c. absurd (contains_none x c))
each_bounded f P b n m (x ∷ xs) le =
    let rest = each_bounded f P b (f n x) m xs le in
    let here = b n m x rest.0 in (
      here.0,
      λ y c. elim (contains_cases x y xs c) [
        | inl e ↦ subst (P m) e here.1
        | inr d ↦ rest.1 y d
      ],
    )

sort_bounded : (n m : ℕ) (s : List ℕ) → with_sort n s ≤ m → (n ≤ m) × IsShort m s
sort_bounded n m s le = (omega (arith, le), omega (arith, le))

operator_bounded : (n m : ℕ) (f : PlainOperator) → with_operator n f ≤ m → (n ≤ m) × OfOperator (IsShort m) f
operator_bounded n m f le =
    let range = sort_bounded (fold with_sort n f.domain) m f.range le in
    let domain = each_bounded with_sort IsShort sort_bounded n m f.domain range.0 in
    (domain.0, (all_from (IsShort m) f.domain domain.1, range.1))

mutual
  term_bounded : (n m : ℕ) (t : Tree) → with_term n t ≤ m → (n ≤ m) × OfTerm (IsShort m) t
  term_bounded n m (var x s) le = sort_bounded n m s le
  term_bounded n m (app f ts) le =
      let rest = terms_bounded (with_operator n f) m ts le in
      let here = operator_bounded n m f rest.0 in
      (here.0, (here.1, rest.1))

  terms_bounded : (n m : ℕ) (ts : Forest) → with_terms n ts ≤ m → (n ≤ m) × OfTerms (IsShort m) ts
  terms_bounded n m none le = (le, tt)
  terms_bounded n m (more t ts) le =
      let rest = terms_bounded (with_term n t) m ts le in
      let here = term_bounded n m t rest.0 in
      (here.0, (here.1, rest.1))

operators_bounded : (n m : ℕ) (fs : List PlainOperator) → fold with_operator n fs ≤ m
    → (n ≤ m) × All (OfOperator (IsShort m)) fs
operators_bounded n m fs le =
    let all = each_bounded with_operator (λ k f. OfOperator (IsShort k) f) operator_bounded n m fs le in
    (all.0, all_from (OfOperator (IsShort m)) fs all.1)

clause_bounded : (n m : ℕ) (s : List ℕ) (fs : List PlainOperator) → fold with_operator (with_sort n s) fs ≤ m
    → (n ≤ m) × (IsShort m s × All (OfOperator (IsShort m)) fs)
clause_bounded n m s fs le =
    let rest = operators_bounded (with_sort n s) m fs le in
    let here = sort_bounded n m s rest.0 in
    (here.0, (here.1, rest.1))

statement_bounded : (n m : ℕ) (s : Statement) → with_statement n s ≤ m → (n ≤ m) × OfStatement (IsShort m) s
statement_bounded n m (Equation l r) le =
    let right = term_bounded (with_term n l) m r le in
    let left = term_bounded n m l right.0 in
    (left.0, (left.1, right.1))
statement_bounded n m (Generated s fs) le = clause_bounded n m s fs le
statement_bounded n m (Partitioned s fs) le = clause_bounded n m s fs le

theory_bounded : (n m : ℕ) (t : Theory) → with_theory n t ≤ m → (n ≤ m) × OfTheory (IsShort m) t
theory_bounded n m t le =
    let said = each_bounded with_statement (λ k s. OfStatement (IsShort k) s) statement_bounded
    (fold with_operator n t.operators) m t.statements le in
    let made = operators_bounded n m t.operators said.0 in
    (made.0, record { operators = made.1; statements = all_from (OfStatement (IsShort m)) t.statements said.1 })

pair_bounded : (n m : ℕ) (p : SortPair) → with_pair n p ≤ m → (n ≤ m) × IsShort m p.new
pair_bounded n m p le = sort_bounded n m p.new le

-- so long are the new sorts of a renaming, Bool and the sorts of a theory at most
pub record AreShort (by : Renaming) (t : Theory) : Type 0 where
  pub truth_values : IsShort (longest by t) bool_sort
  pub pairs : (p : SortPair) → Contains by.sorts p → IsShort (longest by t) p.new
  pub sorts : OfTheory (IsShort (longest by t)) t

pub are_short : (by : Renaming) (t : Theory) → AreShort by t
are_short by t =
    let m = longest by t in
    let own = theory_bounded (fold with_pair (length bool_sort) by.sorts) m t (omega arith) in
    let pairs = each_bounded with_pair (λ k p. IsShort k p.new) pair_bounded (length bool_sort) m by.sorts own.0 in
    record { truth_values = pairs.0; pairs = pairs.1; sorts = own.1 }
