-- Things, each once, are found where all are.
use Rattle.std.proofs.Common.{◌≡◌, refl, sym, ap, ◌∙◌, Bool, true, false, cond, ◌||◌, List, [], ◌∷◌, ◌++◌}
use Rattle.std.specs.Bool.{Decides}
use Rattle.std.specs.Prelude.{ℕ, bytes_eq, fold}
use Rattle.std.specs.List.{list_any}
use Rattle.std.proofs.lemmas.List.Folds.{list_any-append}
use Rattle.std.proofs.lemmas.Slice.Eq.{bytes_eq-Decides}
use Rattle.larch_term.proofs.Decided.{operator_Decides, statement_Decides}
use Rattle.larch_term.specs.Equality.{same_operator, same_statement}
use Rattle.larch_term.specs.Operator.{PlainOperator}
use Rattle.larch_term.specs.declared.statement.Statement.{Statement}
use Rattle.larch_flat_meaning.specs.Gathered.{stands_in, with_new, with_operator}
use Rattle.larch_duties.specs.Kept.{Finds}
use Rattle.larch_duties.specs.Names.{FindsNames, with_word}

or_false : (b : Bool) → (b || false) ≡ b
or_false true = refl
or_false false = refl

or_same : (a b : Bool) → (b ≡ true → a ≡ true) → a ≡ (a || b)
or_same true b h = refl
or_same false true h = h refl
or_same false false h = refl

or_assoc : (a b c : Bool) → ((a || b) || c) ≡ (a || (b || c))
or_assoc true b c = refl
or_assoc false b c = refl

module _ {A : Type 0} (same : A → A → Bool) (tells : (x y : A) → Decides (same x y) (x ≡ y)) where
  -- things with one more behind them, unless it is there
  abbrev pub with_one : List A → A → List A
  with_one xs x = cond (list_any (same x) xs) xs (xs ++ x ∷ [])

  there_too : (xs : List A) (x y : A) → list_any (same x) xs ≡ true → same y x ≡ true → list_any (same y) xs ≡ true
  there_too xs x y there e = ap (λ z. list_any (same z) xs) ((tells y x).0 e) ∙ there

  by_test : (xs : List A) (x y : A) (b : Bool) → list_any (same x) xs ≡ b
      → list_any (same y) (cond b xs (xs ++ x ∷ [])) ≡ (list_any (same y) xs || same y x)
  by_test xs x y true e = or_same (list_any (same y) xs) (same y x) (there_too xs x y e)
  by_test xs x y false e =
      list_any-append (same y) xs (x ∷ []) ∙ ap (λ b. list_any (same y) xs || b) (or_false (same y x))

  -- one more is found
  pub one_found : (xs : List A) (x y : A) → list_any (same y) (with_one xs x) ≡ (list_any (same y) xs || same y x)
  one_found xs x y = by_test xs x y (list_any (same x) xs) refl

  -- what is put behind others is found
  pub all_found : (xs ys : List A) (y : A)
      → list_any (same y) (fold with_one xs ys) ≡ (list_any (same y) xs || list_any (same y) ys)
  all_found xs [] y = sym (or_false (list_any (same y) xs))
  all_found xs (x ∷ ys) y =
      all_found (with_one xs x) ys y ∙ ap (λ b. b || list_any (same y) ys) (one_found xs x y)
      ∙ or_assoc (list_any (same y) xs) (same y x) (list_any (same y) ys)

-- operators, each once, are found where all are
pub operators_found : (fs : List PlainOperator) → Finds (fold with_operator [] fs) fs
operators_found fs f = all_found same_operator operator_Decides [] fs f

-- so are names
pub names_found : (ns : List (List ℕ)) → FindsNames (fold with_word [] ns) ns
names_found ns n = all_found bytes_eq bytes_eq-Decides [] ns n

turned : (a b : Bool) → (a || b) ≡ (b || a)
turned true true = refl
turned true false = refl
turned false true = refl
turned false false = refl

-- and one more is found among other names
pub name_found : (index names : List (List ℕ)) (n : List ℕ) → FindsNames index names
    → FindsNames (with_word index n) (n ∷ names)
name_found index names n h m =
    one_found bytes_eq bytes_eq-Decides index n m ∙ ap (λ b. b || bytes_eq m n) (h m)
    ∙ turned (list_any (bytes_eq m) names) (bytes_eq m n)

-- so are statements
pub statements_found : (ss : List Statement) (s : Statement) → stands_in (fold with_new [] ss) s ≡ stands_in ss s
statements_found ss s = all_found same_statement statement_Decides [] ss s
