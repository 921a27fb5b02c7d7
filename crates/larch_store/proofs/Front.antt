-- Lists that begin with another.
use Rattle.std.proofs.Common.{◌≡◌, ℕ, ◌<◌, ◌≤◌, List, ◌++◌, length, take, get_or, slice_get, Some, refl, sym, ◌∙◌, ap}
use Rattle.std.proofs.Common.{arith}
use Rattle.std.proofs.lemmas.List.{length-take, get_or-take, take-take, take_all, take_at}
use Rattle.std.proofs.lemmas.Option.{slice_get-get_or, slice_get_within, get_or_from_slice_get}

pub front_within : {X : Type 0} (us vs : List X) → take (length us) vs ≡ us → length us ≤ length vs
front_within us vs f = let e = ap length (sym f) ∙ length-take (length us) vs in omega (arith, e)

pub front_get : {X : Type 0} (us vs : List X) (i : ℕ) (x : X) → take (length us) vs ≡ us → slice_get us i ≡ Some x
    → slice_get vs i ≡ Some x
front_get us vs i x f h =
    let lt : i < length us = slice_get_within us i x h in
    let le : length us ≤ length vs = front_within us vs f in
    slice_get-get_or vs i x (omega arith)
    ∙ ap Some (sym (get_or-take (length us) vs i x lt) ∙ ap (λ xs. get_or xs i x) f ∙ get_or_from_slice_get us i x x h)

pub front_refl : {X : Type 0} (us : List X) → take (length us) us ≡ us
front_refl us = take_all (length us) us (omega arith)

pub front_trans : {X : Type 0} (us vs ws : List X) → take (length us) vs ≡ us → take (length vs) ws ≡ vs
    → take (length us) ws ≡ us
front_trans us vs ws f g =
    sym (take-take (length us) (length vs) ws (front_within us vs f)) ∙ ap (take (length us)) g ∙ f

pub front_append : {X : Type 0} (us vs : List X) → take (length us) (us ++ vs) ≡ us
front_append us vs = take_at us vs (length us) refl
