-- What the pairs of a reference give is what its replacements give.
use Rattle.std.proofs.Common.{◌≡◌, ℕ, true, ◌||◌, cond, inl, inr, List, [], ◌∷◌, Contains, map}
use Rattle.std.proofs.Common.{Some, None, Option, option_map, option_and_then, refl, sym, ◌∙◌, ap}
use Rattle.std.specs.Prelude.{bytes_eq, find, unwrap_or}
use Rattle.std.specs.List.{list_any}
use Rattle.std.specs.Map.{lookup}
use Rattle.std.proofs.lemmas.List.Elements.{All-contains}
use Rattle.std.proofs.lemmas.Slice.Eq.{bytes_eq-Decides}
use Rattle.larch_base.proofs.Bools.{true_or_false}
use Rattle.larch_base.proofs.Lists.{map_by}
use Rattle.larch_base.proofs.Members.{contains_cases, contains_none, contains_here, contains_left, contains_right}
use Rattle.larch_term.proofs.BuiltIns.{is_built_in_Decides}
use Rattle.larch_term.proofs.Decided.{operator_Decides}
use Rattle.larch_term.specs.BuiltIn.{IsBuiltIn, is_built_in}
use Rattle.larch_term.specs.Equality.{same_operator}
use Rattle.larch_term.specs.Operator.{OperatorName, PlainOperator, plain, name_bytes}
use Rattle.larch_term.specs.Sorts.{IsKnown}
use Rattle.larch_term.specs.Statement.{IsStatementOver}
use Rattle.larch_term.specs.declared.statement.Statement.{Statement}
use Rattle.larch_renaming.specs.Renaming.{renamed_statement, KeepsBuiltIns}
use Rattle.larch_sorts_known.specs.Sorts.{existing_sorts}
use Rattle.larch_sorts_meaning.proofs.Existing.{exists_Decides}
use Rattle.larch_sorts_meaning.specs.Laws.{IsSortOf, OperatorSorts, StatementSorts, sorts_of_operator}
use Rattle.larch_flat_meaning.specs.Replacements as flat
use Rattle.larch_flat_meaning.specs.Replacements.{Replacements, new_sort, new_operator}
use Rattle.larch_import_names.specs.Names.{with_letters, named_sort, IsNamed, sort_or, name_by, new_name, operator_by}
use Rattle.larch_import_names.specs.Names.{renaming}
use Rattle.larch_import_names.specs.declared.pairs.OperatorPair.{OperatorPair}
use Rattle.larch_import_names.specs.declared.pairs.SortPair.{SortPair}
use Rattle.larch_import_references.proofs.Agreeing.{same_statement}
use Rattle.larch_import_references.specs.Pairs.{sort_pair, operator_pair, pairs_by, HaveLetters, ArePlain}

-- ---- sorts

found_sort : (by : Replacements) (zs : List (List ℕ)) (s : List ℕ) → list_any (bytes_eq s) zs ≡ true
    → find (λ p. bytes_eq p.old s) (map (sort_pair by) zs) ≡ Some (sort_pair by s)
found_sort by [] s e = cc
found_sort by (z ∷ zs) s e =
    let rest : Option SortPair = find (λ p. bytes_eq p.old s) (map (sort_pair by) zs) in
    elim (true_or_false (bytes_eq z s)) [
      | inl y ↦ ap (λ b. cond b (Some (sort_pair by z)) rest) y
          ∙ ap (λ x. Some (sort_pair by x)) ((bytes_eq-Decides z s).0 y)
      | inr n ↦ elim (true_or_false (bytes_eq s z)) [
        | inl w ↦
            absurd (let y = (bytes_eq-Decides z s).1 (sym ((bytes_eq-Decides s z).0 w)) in let v = sym y ∙ n in cc)
        | inr w ↦ ap (λ b. cond b (Some (sort_pair by z)) rest) n
            ∙ found_sort by zs s (sym (ap (λ b. b || list_any (bytes_eq s) zs) w) ∙ e)
      ]
    ]

letters_kept : (s : List ℕ) → (s ≡ [] → ⊥) → with_letters s ≡ Some s
letters_kept [] f = absurd (f refl)
letters_kept (c ∷ cs) f = refl

module _ (by : Replacements) (fs : List PlainOperator) (letters : HaveLetters by fs) where
  named_so : (s : List ℕ) → IsSortOf fs s → named_sort (pairs_by by fs) s ≡ Some (new_sort by s)
  named_so [] x = absurd ((letters [] x).0 refl)
  named_so (c ∷ cs) x =
      ap (option_and_then (λ p. with_letters p.new))
      (found_sort by (existing_sorts fs) (c ∷ cs) ((exists_Decides fs (c ∷ cs)).1 x))
      ∙ letters_kept (new_sort by (c ∷ cs)) (letters (c ∷ cs) x).1

  pub sort_named : (s : List ℕ) → IsSortOf fs s → IsNamed (pairs_by by fs) s
  sort_named s x = (new_sort by s, named_so s x)

  pub sort_given : (s : List ℕ) → IsSortOf fs s → sort_or (λ z. z) (pairs_by by fs) s ≡ new_sort by s
  sort_given s x = ap (λ o. unwrap_or o s) (named_so s x)

-- ---- operators

found_operator : (by : Replacements) (gs : List PlainOperator) (f : PlainOperator) → Contains gs f
    → find (λ p. same_operator p.old f) (map (operator_pair by) gs) ≡ Some (operator_pair by f)
found_operator by [] f c = absurd (contains_none f c)
found_operator by (g ∷ gs) f c =
    let rest : Option OperatorPair = find (λ p. same_operator p.old f) (map (operator_pair by) gs) in
    elim (true_or_false (same_operator g f)) [
      | inl y ↦ ap (λ b. cond b (Some (operator_pair by g)) rest) y
          ∙ ap (λ x. Some (operator_pair by x)) ((operator_Decides g f).0 y)
      | inr n ↦ elim (contains_cases g f gs c) [
        | inl e ↦ absurd (let y = (operator_Decides g f).1 e in let v = sym y ∙ n in cc)
        | inr d ↦ ap (λ b. cond b (Some (operator_pair by g)) rest) n ∙ found_operator by gs f d
      ]
    ]

-- a new name is plain where the old one is
plain_kept : (o : Option (List ℕ)) (m : OperatorName) (n : List ℕ) → m ≡ plain n
    → plain (name_bytes (unwrap_or (option_map plain o) m)) ≡ unwrap_or (option_map plain o) m
plain_kept None m n e = ap (λ k. plain (name_bytes k)) e ∙ sym e
plain_kept (Some x) m n e = refl

name_taken : (by : Replacements) (f : PlainOperator) (n : List ℕ) → f.name ≡ plain n
    → name_by f.name (Some (operator_pair by f)) ≡ flat.new_name by f
name_taken by f n e =
    ap (λ m. name_by m (Some (operator_pair by f))) e
    ∙ plain_kept (lookup (same_operator f) by.operators) f.name n e

module _ (by : Replacements) (fs : List PlainOperator) (letters : HaveLetters by fs) (plains : ArePlain fs)
    (keeps : KeepsBuiltIns (flat.renaming by)) where
  built_in_named : (f : PlainOperator) → IsBuiltIn f → flat.new_name by f ≡ f.name
  built_in_named f (b, (s, e)) =
      ap (flat.new_name by) e ∙ ap (λ g. g.name) (keeps.operators b s) ∙ ap (λ g. g.name) (sym e)

  own_named : (f : PlainOperator) → Contains fs f
      → name_by f.name (find (λ p. same_operator p.old f) (map (operator_pair by) fs)) ≡ flat.new_name by f
  own_named f c =
      let name = All-contains (λ g. (n : List ℕ) × (g.name ≡ plain n)) fs f plains c in
      ap (name_by f.name) (found_operator by fs f c) ∙ name_taken by f name.0 name.1

  name_given : (f : PlainOperator) → IsKnown fs f → new_name (pairs_by by fs) f ≡ flat.new_name by f
  name_given f k =
      let other = name_by f.name (find (λ p. same_operator p.old f) (map (operator_pair by) fs)) in
      elim (true_or_false (is_built_in f)) [
        | inl y ↦ ap (λ b. cond b f.name other) y ∙ sym (built_in_named f ((is_built_in_Decides f).0 y))
        | inr n ↦ ap (λ b. cond b f.name other) n ∙ elim k [
          | inl c ↦ own_named f c
          | inr b ↦ absurd (let y = (is_built_in_Decides f).1 b in let v = sym y ∙ n in cc)
        ]
      ]

  pub operator_given : (f : PlainOperator) → IsKnown fs f → OperatorSorts (IsSortOf fs) f
      → (renaming (pairs_by by fs)).operator f ≡ new_operator by f
  unfolding operator_by
  operator_given f k p =
      let at : (s : List ℕ) → Contains (sorts_of_operator f) s → IsSortOf fs s =
      λ s c. All-contains (IsSortOf fs) (sorts_of_operator f) s p c in
      let domain = map_by (sort_or (λ z. z) (pairs_by by fs)) (new_sort by) f.domain
      (λ s c. sort_given by fs letters s (at s (contains_left f.domain (f.range ∷ []) s c))) in
      let range = sort_given by fs letters f.range
      (at f.range (contains_right f.domain (f.range ∷ []) f.range (contains_here f.range []))) in
      λ i. record { name = name_given f k i; domain = domain i; range = range i }

  -- so statements become the same
  pub statement_given : (s : Statement) → IsStatementOver fs s → StatementSorts (IsSortOf fs) s
      → renamed_statement (renaming (pairs_by by fs)) s ≡ renamed_statement (flat.renaming by) s
  statement_given s o p =
      same_statement (renaming (pairs_by by fs)) (flat.renaming by) fs (IsSortOf fs) (sort_given by fs letters)
      operator_given s o p
