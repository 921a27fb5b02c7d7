-- What equality of keys says.
use Rattle.std.proofs.Common.{◌≡◌, ℕ, List, get_or, slice_get, Some, true, refl, sym, ◌∙◌, ap, arith}
use Rattle.std.specs.Prelude.{nat_eq}
use Rattle.std.specs.List.{position}
use Rattle.std.specs.Cmp.Lexicographic.{pointwise}
use Rattle.std.proofs.lemmas.Bool.Decides.{Decides-eqb}
use Rattle.std.proofs.lemmas.List.Quantifiers.{position-Some}
use Rattle.std.proofs.lemmas.Option.{slice_get-get_or}
use Rattle.std.proofs.lemmas.Slice.Eq.{slice_eq-Decides}
use Rattle.larch_term.specs.OperatorKey.{same_operator, operator_Decides}
use Rattle.larch_store.specs.declared.key.Key.{Key}
use Rattle.larch_store.specs.declared.key.Key.TheVariants.{Var, App}
use Rattle.larch_store.specs.contracts.key.KeyPartialEq.TheImpl as key_eq

same_numbers : (xs ys : List ℕ) → pointwise nat_eq xs ys ≡ true → xs ≡ ys
same_numbers xs ys = (slice_eq-Decides Decides-eqb xs ys (pointwise nat_eq xs ys) refl).0

self_numbers : (xs : List ℕ) → pointwise nat_eq xs xs ≡ true
self_numbers xs = (slice_eq-Decides Decides-eqb xs xs (pointwise nat_eq xs xs) refl).1 refl

pub same_key : (x y : Key) → key_eq.ghosts.eq x y ≡ true → x ≡ y
same_key (Var n s) (Var m r) h =
    let a : pointwise nat_eq n m ≡ true = grind arith in
    let b : pointwise nat_eq s r ≡ true = grind arith in
    λ i. Var (same_numbers n m a i) (same_numbers s r b i)
same_key (Var n s) (App g ds) h = grind arith
same_key (App f cs) (Var m r) h = grind arith
same_key (App f cs) (App g ds) h =
    let a : same_operator f g ≡ true = grind arith in
    let b : pointwise nat_eq cs ds ≡ true = grind arith in
    λ i. App ((operator_Decides f g).0 a i) (same_numbers cs ds b i)

pub self_key : (x : Key) → key_eq.ghosts.eq x x ≡ true
self_key (Var n s) = grind (arith, self_numbers n, self_numbers s)
self_key (App f cs) = grind (arith, self_numbers cs, (operator_Decides f f).1 refl)

-- the first key that passes is the key
pub stands_under : (ks : List Key) (k : Key) (i : ℕ) → position (key_eq.ghosts.eq k) ks ≡ Some i
    → slice_get ks i ≡ Some k
stands_under ks k i e =
    let p = position-Some (key_eq.ghosts.eq k) ks i k e in
    slice_get-get_or ks i k p.0 ∙ ap Some (sym (same_key k (get_or ks i k) p.1))
