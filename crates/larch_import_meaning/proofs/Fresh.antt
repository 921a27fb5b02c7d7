-- Sorts stay apart where those that aren't named become longer than all others.
use Rattle.std.proofs.Common.{◌≡◌, ℕ, ◌<◌}
use Rattle.std.proofs.Common.{cond, inl, inr, List, [], ◌∷◌, ◌++◌, length}
use Rattle.std.proofs.Common.{Contains, map, replicate, Some, None, refl, sym, ◌∙◌, ap, subst, arith}
use Rattle.std.specs.Prelude.{Option, bytes_eq, find, option_and_then, unwrap_or}
use Rattle.std.proofs.lemmas.List.{length-append, length-replicate}
use Rattle.std.proofs.lemmas.Slice.Eq.{bytes_eq-Decides}
use Rattle.larch_base.proofs.Bools.{true_or_false}
use Rattle.larch_base.proofs.Members.{contains_here, contains_later}
use Rattle.larch_base.proofs.Options.{some_inj}
use Rattle.larch_term.proofs.BuiltIns.{is_built_in_Decides}
use Rattle.larch_term.specs.BuiltIn.{bool_sort, built_in, built_in_domain, built_in_range}
use Rattle.larch_term.specs.Equality.{same_operator}
use Rattle.larch_term.specs.declared.built_in.BuiltIn.{BuiltIn}
use Rattle.larch_term.specs.declared.built_in.BuiltIn.TheVariants.{True, False, Not, And, Or, Implies, Iff}
use Rattle.larch_term.specs.declared.built_in.BuiltIn.TheVariants.{Equal, Unequal, If}
use Rattle.larch_term.specs.declared.statement.Theory.{Theory}
use Rattle.larch_verify_meaning.specs.CalculusRenaming.{IsFaithful}
use Rattle.larch_verify_meaning.specs.RenamingRenaming.{KeepsBuiltIns}
use Rattle.larch_import_names.specs.Names.{with_letters, paired_sort}
use Rattle.larch_import_names.specs.Names.{sort_or, name_by, new_name, operator_by}
use Rattle.larch_import_names.specs.Names.{renaming_or}
use Rattle.larch_import_names.specs.Sorted.{OfTheory}
use Rattle.larch_import_names.specs.declared.pairs.Renaming.{Renaming}
use Rattle.larch_import_names.specs.declared.pairs.SortPair.{SortPair}
use Rattle.larch_import_meaning.specs.Fresh.{fresh_sort, renaming_into, KeepsSorts}
use Rattle.larch_import_meaning.specs.Lengths.{longest}
use Rattle.larch_import_meaning.proofs.Lengths.{IsShort, are_short}
use Rattle.larch_import_meaning.proofs.Weaker.{theory_weaker}

-- ---- letters before a sort

rest_same : (xs ys zs : List ℕ) → xs ++ ys ≡ xs ++ zs → ys ≡ zs
rest_same [] ys zs e = e
rest_same (x ∷ xs) ys zs e = let p : xs ++ ys ≡ xs ++ zs = cc in rest_same xs ys zs p

so_many : (n : ℕ) (c : ℕ) → length (replicate n c) ≡ n
so_many n c = length-replicate n c

-- a sort behind letters is longer
pub fresh_long : (n : ℕ) (c : ℕ) (cs : List ℕ) → n < length (fresh_sort n (c ∷ cs))
fresh_long n c cs =
    let e = length-append (replicate n 115) (c ∷ cs) in
    let m = so_many n 115 in
    omega (arith, e, m)

-- so it is no shorter sort
not_short : (n : ℕ) (c : ℕ) (cs s : List ℕ) → IsShort n s → fresh_sort n (c ∷ cs) ≡ s → ⊥
not_short n c cs s short e =
    let l = fresh_long n c cs in
    let k : length (fresh_sort n (c ∷ cs)) ≡ length s = ap length e in
    absurd (omega (arith, l, k, short))

pub new_to_theory : (by : Renaming) (u : Theory) (c : ℕ) (cs : List ℕ)
    → OfTheory (λ s. fresh_sort (longest by u) (c ∷ cs) ≡ s → ⊥) u
new_to_theory by u c cs =
    theory_weaker (IsShort (longest by u)) (λ s. fresh_sort (longest by u) (c ∷ cs) ≡ s → ⊥)
    (λ s short. not_short (longest by u) c cs s short) u (are_short by u).sorts

pub new_to_pairs : (by : Renaming) (u : Theory) (c : ℕ) (cs : List ℕ) (p : SortPair) → Contains by.sorts p
    → fresh_sort (longest by u) (c ∷ cs) ≡ p.new → ⊥
new_to_pairs by u c cs p at = not_short (longest by u) c cs p.new ((are_short by u).pairs p at)

pub new_to_truth_values : (by : Renaming) (u : Theory) (c : ℕ) (cs : List ℕ)
    → fresh_sort (longest by u) (c ∷ cs) ≡ bool_sort → ⊥
new_to_truth_values by u c cs = not_short (longest by u) c cs bool_sort (are_short by u).truth_values

-- ---- what the sort of a pair is

found_pair : (ps : List SortPair) (s : List ℕ) (p : SortPair) → find (λ q. bytes_eq q.old s) ps ≡ Some p
    → Contains ps p × (p.old ≡ s)
found_pair [] s p e = cc
found_pair (q ∷ qs) s p e =
    elim (true_or_false (bytes_eq q.old s)) [
      | inl y ↦
          let same : q ≡ p = some_inj (sym (ap (λ b. cond b (Some q) (find (λ r. bytes_eq r.old s) qs)) y) ∙ e) in (
            subst (Contains (q ∷ qs)) same (contains_here q qs),
            ap (λ r. r.old) (sym same) ∙ (bytes_eq-Decides q.old s).0 y,
          )
      | inr n ↦
          let r = found_pair qs s p (sym (ap (λ b. cond b (Some q) (find (λ r. bytes_eq r.old s) qs)) n) ∙ e) in
          (contains_later q p qs r.0, r.1)
    ]

has_letters : (s z : List ℕ) → with_letters s ≡ Some z → (s ≡ z) × (z ≡ [] → ⊥)
has_letters [] z e = cc
has_letters (c ∷ cs) z e = let p = some_inj e in (p, λ q. let r = p ∙ q in cc)

-- a sort is that of a pair, or becomes another one
data Becomes (other : List ℕ → List ℕ) (by : Renaming) (s : List ℕ) : Type 0 where
  paired : (p : SortPair) → Contains by.sorts p → p.old ≡ s → sort_or other by s ≡ p.new → (p.new ≡ [] → ⊥)
      → Becomes other by s
  unnamed : sort_or other by s ≡ other s → Becomes other by s

becomes_by : (other : List ℕ → List ℕ) (by : Renaming) (c : ℕ) (cs : List ℕ) (o : Option SortPair)
    → find (λ q. bytes_eq q.old (c ∷ cs)) by.sorts ≡ o → (z : Option (List ℕ))
    → option_and_then (λ p. with_letters p.new) o ≡ z → Becomes other by (c ∷ cs)
becomes_by other by c cs o f None e =
    unnamed (ap (λ x. unwrap_or (option_and_then (λ p. with_letters p.new) x) (other (c ∷ cs))) f
    ∙ ap (λ x. unwrap_or x (other (c ∷ cs))) e)
becomes_by other by c cs None f (Some z) e = cc
becomes_by other by c cs (Some p) f (Some z) e =
    let found = found_pair by.sorts (c ∷ cs) p f in
    let word = has_letters p.new z e in
    paired p found.0 found.1
    (ap (λ x. unwrap_or (option_and_then (λ p. with_letters p.new) x) (other (c ∷ cs))) f
    ∙ ap (λ x. unwrap_or x (other (c ∷ cs))) e ∙ sym word.0)
    (λ q. word.1 (sym word.0 ∙ q))

becomes : (other : List ℕ → List ℕ) (by : Renaming) (c : ℕ) (cs : List ℕ) → Becomes other by (c ∷ cs)
becomes other by c cs =
    becomes_by other by c cs (find (λ q. bytes_eq q.old (c ∷ cs)) by.sorts) refl
    (paired_sort by.sorts (c ∷ cs)) refl

-- ---- sorts stay apart

module _ (by : Renaming) (u : Theory) (x : KeepsSorts by) where
  abbrev n : ℕ
  n = longest by u

  abbrev new : List ℕ → List ℕ
  new = sort_or (fresh_sort n) by

  -- what has letters keeps some
  some_letters : (c : ℕ) (cs : List ℕ) → Becomes (fresh_sort n) by (c ∷ cs) → new (c ∷ cs) ≡ [] → ⊥
  some_letters c cs (paired p at old is word) e = word (sym is ∙ e)
  some_letters c cs (unnamed is) e =
      let l = fresh_long n c cs in
      let k : length (fresh_sort n (c ∷ cs)) ≡ 0 = ap length (sym is ∙ e) in
      absurd (omega (arith, l, k))

  both : (c d : ℕ) (cs ds : List ℕ) → Becomes (fresh_sort n) by (c ∷ cs) → Becomes (fresh_sort n) by (d ∷ ds)
      → new (c ∷ cs) ≡ new (d ∷ ds) → c ∷ cs ≡ d ∷ ds
  both c d cs ds (paired p at old is word) (paired q there was are letters) e =
      sym old ∙ x.apart p q at there (sym is ∙ e ∙ are) ∙ was
  both c d cs ds (paired p at old is word) (unnamed are) e =
      absurd (new_to_pairs by u d ds p at (sym (sym is ∙ e ∙ are)))
  both c d cs ds (unnamed is) (paired q there was are letters) e =
      absurd (new_to_pairs by u c cs q there (sym is ∙ e ∙ are))
  both c d cs ds (unnamed is) (unnamed are) e =
      rest_same (replicate n 115) (c ∷ cs) (d ∷ ds) (sym is ∙ e ∙ are)

  pub sorts_apart : (s q : List ℕ) → new s ≡ new q → s ≡ q
  sorts_apart [] [] e = refl
  sorts_apart [] (d ∷ ds) e = absurd (some_letters d ds (becomes (fresh_sort n) by d ds) (sym e))
  sorts_apart (c ∷ cs) [] e = absurd (some_letters c cs (becomes (fresh_sort n) by c cs) e)
  sorts_apart (c ∷ cs) (d ∷ ds) e =
      both c d cs ds (becomes (fresh_sort n) by c cs) (becomes (fresh_sort n) by d ds) e

-- ---- built-in operators stay

domain_renamed : (f : List ℕ → List ℕ) → f bool_sort ≡ bool_sort → (b : BuiltIn) (s : List ℕ)
    → map f (built_in_domain b s) ≡ built_in_domain b (f s)
domain_renamed f e True s = refl
domain_renamed f e False s = refl
domain_renamed f e Not s = ap (λ z. z ∷ []) e
domain_renamed f e And s = ap (λ z. z ∷ z ∷ []) e
domain_renamed f e Or s = ap (λ z. z ∷ z ∷ []) e
domain_renamed f e Implies s = ap (λ z. z ∷ z ∷ []) e
domain_renamed f e Iff s = ap (λ z. z ∷ z ∷ []) e
domain_renamed f e Equal s = refl
domain_renamed f e Unequal s = refl
domain_renamed f e If s = ap (λ z. z ∷ f s ∷ f s ∷ []) e

range_renamed : (f : List ℕ → List ℕ) → f bool_sort ≡ bool_sort → (b : BuiltIn) (s : List ℕ)
    → f (built_in_range b s) ≡ built_in_range b (f s)
range_renamed f e True s = e
range_renamed f e False s = e
range_renamed f e Not s = e
range_renamed f e And s = e
range_renamed f e Or s = e
range_renamed f e Implies s = e
range_renamed f e Iff s = e
range_renamed f e Equal s = e
range_renamed f e Unequal s = e
range_renamed f e If s = refl

name_stays : (by : Renaming) (b : BuiltIn) (s : List ℕ) → new_name by (built_in b s) ≡ (built_in b s).name
name_stays by b s =
    let f = built_in b s in
    ap (λ t. cond t f.name (name_by f.name (find (λ p. same_operator p.old f) by.operators)))
    ((is_built_in_Decides f).1 (b, (s, refl)))

pub keeps_built_ins : (other : List ℕ → List ℕ) (by : Renaming) → sort_or other by bool_sort ≡ bool_sort
    → KeepsBuiltIns (renaming_or other by)
unfolding operator_by
keeps_built_ins other by e =
    record {
      truth_values = e;
      operators = λ b s i.
          record {
            name = name_stays by b s i;
            domain = domain_renamed (sort_or other by) e b s i;
            range = range_renamed (sort_or other by) e b s i;
          };
    }

pub is_faithful : (by : Renaming) (u : Theory) → KeepsSorts by → IsFaithful (renaming_into by u)
unfolding operator_by
is_faithful by u x =
    record {
      signatures = record { domain = λ f. refl; range = λ f. refl };
      built_in = keeps_built_ins (fresh_sort (longest by u)) by
          (ap (λ o. unwrap_or o (fresh_sort (longest by u) bool_sort)) x.truth_values);
      apart = sorts_apart by u x;
    }
