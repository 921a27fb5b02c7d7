-- Lists that begin with another.
use Rattle.std.proofs.Common.{◌≡◌, ℕ, ◌<◌, ◌≤◌, List, [], ◌∷◌, ◌++◌, length, take, All, map, get_or, slice_get, Some}
use Rattle.std.proofs.Common.{refl, sym, ◌∙◌, ap, arith}
use Rattle.std.proofs.lemmas.List.{length-take}
use Rattle.std.proofs.lemmas.List.{get_or-take, take-take, take_all, map_push}
use Rattle.std.proofs.lemmas.List.Elements.{All-weaker, All-head, All-tail}
use Rattle.std.proofs.lemmas.Option.{slice_get-get_or, slice_get_within, get_or_from_slice_get}
use Rattle.larch_term.specs.Tree.{Tree}
use Rattle.larch_verify_pool.specs.Pooled.{Pooled, tree_in, no_tree, Grows}

pub front_within : {X : Type 0} (us vs : List X) → take (length us) vs ≡ us → length us ≤ length vs
front_within us vs f = let e = ap length (sym f) ∙ length-take (length us) vs in omega (arith, e)

pub front_at : {X : Type 0} (us vs : List X) (i : ℕ) (d : X) → take (length us) vs ≡ us → i < length us
    → get_or vs i d ≡ get_or us i d
front_at us vs i d f lt = sym (get_or-take (length us) vs i d lt) ∙ ap (λ xs. get_or xs i d) f

pub front_get : {X : Type 0} (us vs : List X) (i : ℕ) (x : X) → take (length us) vs ≡ us → slice_get us i ≡ Some x
    → slice_get vs i ≡ Some x
front_get us vs i x f h =
    let lt : i < length us = slice_get_within us i x h in
    let le : length us ≤ length vs = front_within us vs f in
    slice_get-get_or vs i x (omega arith) ∙ ap Some (front_at us vs i x f lt ∙ get_or_from_slice_get us i x x h)

pub front_refl : {X : Type 0} (us : List X) → take (length us) us ≡ us
front_refl us = take_all (length us) us (omega arith)

pub front_trans : {X : Type 0} (us vs ws : List X) → take (length us) vs ≡ us → take (length vs) ws ≡ vs
    → take (length us) ws ≡ us
front_trans us vs ws f g =
    sym (take-take (length us) (length vs) ws (front_within us vs f)) ∙ ap (take (length us)) g ∙ f

pub grows_refl : (p : Pooled) → Grows p p
grows_refl p = (front_refl p.operators, front_refl p.trees)

pub grows_trans : (p q r : Pooled) → Grows p q → Grows q r → Grows p r
grows_trans p q r a b =
    (front_trans p.operators q.operators r.operators a.0 b.0, front_trans p.trees q.trees r.trees a.1 b.1)

pub all_within : (us vs : List Tree) (xs : List ℕ) → take (length us) vs ≡ us → All (λ x. x < length us) xs
    → All (λ x. x < length vs) xs
all_within us vs xs f = let le : length us ≤ length vs = front_within us vs f in
    All-weaker (λ x. x < length us) (λ x. x < length vs) (λ x lt. omega arith) xs

pub trees_stay : (us vs : List Tree) (ns : List ℕ) → take (length us) vs ≡ us → All (λ n. n < length us) ns
    → map (tree_in vs) ns ≡ map (tree_in us) ns
trees_stay us vs [] f a = refl
trees_stay us vs (n ∷ ns) f a =
    λ i. front_at us vs n no_tree f (All-head (λ m. m < length us) n ns a) i
    ∷ trees_stay us vs ns f (All-tail (λ m. m < length us) n ns a) i

-- one number more, with its tree
pub numbers_more : (us vs xs : List Tree) (ns : List ℕ) (n : ℕ) (t : Tree) → take (length us) vs ≡ us
    → All (λ m. m < length us) ns → map (tree_in us) ns ≡ xs → slice_get vs n ≡ Some t
    → map (tree_in vs) (ns ++ n ∷ []) ≡ xs ++ t ∷ []
numbers_more us vs xs ns n t f a e h =
    map_push (tree_in vs) ns n ∙ (λ i. (trees_stay us vs ns f a ∙ e) i ++ get_or_from_slice_get vs n t no_tree h i ∷ [])
