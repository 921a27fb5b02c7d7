-- Lists compared element by element.
use Rattle.std.proofs.Common.{◌≡◌, ℕ, ◌+◌, ◌<◌, Bool, true, false, not, List, [], ◌∷◌, ◌++◌, length, map, take, get_or}
use Rattle.std.proofs.Common.{All, bytes_eq, refl, sym, ◌∙◌, ap, subst}
use Rattle.std.proofs.lemmas.List.{get_or-map, map_push, take_more}
use Rattle.std.proofs.lemmas.List.Elements.{All-push}
use Rattle.std.proofs.lemmas.Slice.Eq.{bytes_eq-Decides}
use Rattle.larch_term.specs.Tree.{Tree}
use Rattle.larch_verify_pool.proofs.Front.{all_within}

pub differs_at : {X Y : Type 0} (f : X → Y) (xs : List X) (ys : List Y) (i : ℕ) (d : X) (e : Y) → i < length xs
    → (f (get_or xs i d) ≡ get_or ys i e → ⊥) → map f xs ≡ ys → ⊥
differs_at f xs ys i d e l n h = n (sym (get_or-map f xs i d e l) ∙ ap (λ zs. get_or zs i e) h)

pub differ_at : {X Y : Type 0} (f : X → Y) (xs ys : List X) (i : ℕ) (d e : X) → i < length xs → i < length ys
    → (f (get_or xs i d) ≡ f (get_or ys i e) → ⊥) → map f xs ≡ map f ys → ⊥
differ_at f xs ys i d e l m n h =
    differs_at f xs (map f ys) i d (f e) l (λ k. n (k ∙ get_or-map f ys i e (f e) m)) h

pub alike_more : {X Y : Type 0} (f : X → Y) (xs : List X) (ys : List Y) (i : ℕ) (d : X) (e : Y) → i < length xs
    → i < length ys
    → map f (take i xs) ≡ take i ys → f (get_or xs i d) ≡ get_or ys i e → map f (take (i + 1) xs) ≡ take (i + 1) ys
alike_more f xs ys i d e l m h k =
    ap (map f) (take_more xs i d l) ∙ map_push f (take i xs) (get_or xs i d) ∙ (λ j. h j ++ k j ∷ [])
    ∙ sym (take_more ys i e m)

pub unequal : (x y z : List ℕ) (r : Bool) → r ≡ not (bytes_eq x y) → r ≡ true → y ≡ z → x ≡ z → ⊥
unequal x y z r e h s k =
    let q : bytes_eq x y ≡ true = (bytes_eq-Decides x y).1 (k ∙ sym s) in
    let p : not (bytes_eq x y) ≡ true = sym e ∙ h in
    cc

pub equal : (x y z : List ℕ) (r : Bool) → r ≡ not (bytes_eq x y) → r ≡ false → y ≡ z → x ≡ z
equal x y z r e h s = (bytes_eq-Decides x y).0 (not_false (bytes_eq x y) (sym e ∙ h)) ∙ s
  where
    not_false : (b : Bool) → not b ≡ false → b ≡ true
    not_false true q = refl
    not_false false q = cc

-- one number more, while the trees grow
pub numbers_within : (us vs : List Tree) (ns ms : List ℕ) (n : ℕ) → take (length us) vs ≡ us
    → All (λ m. m < length us) ns
    → ms ≡ ns ++ n ∷ [] → n < length vs → All (λ m. m < length vs) ms
numbers_within us vs ns ms n f a e l =
    subst (All (λ m. m < length vs)) (sym e) (All-push (λ m. m < length vs) ns n (all_within us vs ns f a) l)
