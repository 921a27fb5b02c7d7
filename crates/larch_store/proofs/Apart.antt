-- Different shared terms of a store are different terms.
use Rattle.std.proofs.Common.{◌≡◌, ℕ, zero, suc, ◌<◌, ◌⊎◌, inl, inr, Bool, true, List, length, map, get_or, refl, sym}
use Rattle.std.proofs.Common.{◌∙◌, ap, arith, true≢false}
use Rattle.std.specs.List.{IsDistinct}
use Rattle.std.proofs.lemmas.List.{get_or-map, length-map}
use Rattle.std.proofs.lemmas.List.Elements.{All-head, All-tail}
use Rattle.std.proofs.lemmas.Map.Keys.{apart_from_distinct}
use Rattle.std.proofs.lemmas.Option.{slice_get_within, get_or_from_slice_get}
use Rattle.larch_store.specs.Numbered.{Numbered, Several, leaf, branch, nothing, further, term_of, terms_of, number_of}
use Rattle.larch_store.specs.Numbered.{list_of_several}
use Rattle.larch_store.specs.Key.{key_of}
use Rattle.larch_store.specs.Stored.{Belongs, AllBelong, IsStore}
use Rattle.larch_store.specs.declared.key.Key.{Key}
use Rattle.larch_store.specs.declared.key.Key.TheVariants.{Var, App}
use Rattle.larch_store.specs.contracts.key.KeyPartialEq.TheImpl as key_eq
use Rattle.larch_store.proofs.Growth.{belongs_once}
use Rattle.larch_store.proofs.Same.{self_key}
use Rattle.larch_store.proofs.Standing.{belonging}

-- keys of a set at two places that are equal stand at one place
one_place : {K : Type 0} (e : K → K → Bool) → ((x : K) → e x x ≡ true) → (ks : List K) → IsDistinct e ks
    → (i j : ℕ) (d : K) → i < length ks → j < length ks → get_or ks i d ≡ get_or ks j d → i ≡ j
one_place {K} e self ks u i j d li lj same = by (order i j)
  where
    order : (a b : ℕ) → (a < b) ⊎ ((b < a) ⊎ (a ≡ b))
    order zero zero = inr (inr refl)
    order zero (suc b) = inl (omega arith)
    order (suc a) zero = inr (inl (omega arith))
    order (suc a) (suc b) = next (order a b)
      where
        next : (a < b) ⊎ ((b < a) ⊎ (a ≡ b)) → (suc a < suc b) ⊎ ((suc b < suc a) ⊎ (suc a ≡ suc b))
        next (inl p) = inl (omega arith)
        next (inr (inl p)) = inr (inl (omega arith))
        next (inr (inr p)) = inr (inr (ap suc p))

    by : (i < j) ⊎ ((j < i) ⊎ (i ≡ j)) → i ≡ j
    by (inl p) =
        absurd
        (true≢false (sym (self (get_or ks i d)) ∙ ap (e (get_or ks i d)) same ∙ apart_from_distinct e ks i j d u p lj))
    by (inr (inl p)) =
        absurd
        (true≢false (sym (self (get_or ks j d)) ∙ ap (e (get_or ks j d)) (sym same)
        ∙ apart_from_distinct e ks j i d u p li))
    by (inr (inr p)) = p

-- shared terms with one key are one
one_key : (ks : List Key) (s : List Numbered) → IsStore ks s → IsDistinct key_eq.ghosts.eq ks → (x y : Numbered)
    → Belongs s x → Belongs s y → key_of x ≡ key_of y → x ≡ y
unfolding Belongs
one_key ks s h u x y a b e =
    let i : ℕ = number_of x in
    let j : ℕ = number_of y in
    let li : i < length s = slice_get_within s i x a in
    let lj : j < length s = slice_get_within s j y b in
    let d : Key = key_of x in
    let l : length ks ≡ length s = ap length h.0 ∙ length-map s key_of in
    let p : get_or ks i d ≡ key_of x =
    ap (λ js. get_or js i d) h.0 ∙ get_or-map key_of s i x d li ∙ ap key_of (get_or_from_slice_get s i x x a) in
    let q : get_or ks j d ≡ key_of y =
    ap (λ js. get_or js j d) h.0 ∙ get_or-map key_of s j x d lj ∙ ap key_of (get_or_from_slice_get s j y x b) in
    belongs_once s x y a b (one_place key_eq.ghosts.eq self_key ks u i j d (omega (arith, l)) (omega (arith, l))
    (p ∙ e ∙ sym q))

mutual
  pub one_term : (ks : List Key) (s : List Numbered) → IsStore ks s → IsDistinct key_eq.ghosts.eq ks → (x y : Numbered)
      → Belongs s x → Belongs s y → term_of x ≡ term_of y → x ≡ y
  one_term ks s h u (leaf k z n r) (leaf l w m t) a b e =
      let p : n ≡ m = cc in
      let q : r ≡ t = cc in
      one_key ks s h u (leaf k z n r) (leaf l w m t) a b (λ i. Var (p i) (q i))
  one_term ks s h u (leaf k z n r) (branch l w g ys) a b e = absurd cc
  one_term ks s h u (branch k z f xs) (leaf l w m t) a b e = absurd cc
  one_term ks s h u (branch k z f xs) (branch l w g ys) a b e =
      let p : f ≡ g = cc in
      let q : terms_of xs ≡ terms_of ys = cc in
      let r : xs ≡ ys =
      all_one ks s h u xs ys (belonging ks s (branch k z f xs) h a).3 (belonging ks s (branch l w g ys) h b).3 q in
      one_key ks s h u (branch k z f xs) (branch l w g ys) a b (λ i. App (p i) (map number_of (list_of_several (r i))))

  all_one : (ks : List Key) (s : List Numbered) → IsStore ks s → IsDistinct key_eq.ghosts.eq ks → (xs ys : Several)
      → AllBelong s (list_of_several xs) → AllBelong s (list_of_several ys) → terms_of xs ≡ terms_of ys → xs ≡ ys
  all_one ks s h u nothing nothing a b e = refl
  all_one ks s h u nothing (further y ys) a b e = absurd cc
  all_one ks s h u (further x xs) nothing a b e = absurd cc
  all_one ks s h u (further x xs) (further y ys) a b e =
      let p : term_of x ≡ term_of y = cc in
      let q : terms_of xs ≡ terms_of ys = cc in
      let v : x ≡ y = one_term ks s h u x y (All-head (Belongs s) x (list_of_several xs) a)
      (All-head (Belongs s) y (list_of_several ys) b) p in
      let w : xs ≡ ys = all_one ks s h u xs ys (All-tail (Belongs s) x (list_of_several xs) a)
      (All-tail (Belongs s) y (list_of_several ys) b) q in
      λ i. further (v i) (w i)
