-- Places that are listed one argument after another.
use Rattle.std.proofs.Common.{◌≡◌, ℕ, suc, ◌+◌, ◌<◌, List, [], ◌∷◌, ◌++◌, map, length, get_or, drop, arith, drop-cons}
use Rattle.std.proofs.Common.{refl, sym, ◌∙◌, ap}
use Rattle.std.proofs.lemmas.List.{map-append}
use Rattle.larch_base.proofs.Lists.{map_map, map_by}
use Rattle.larch_term.specs.Tree.{Tree, forest_of}
use Rattle.larch_pairs_critical.specs.Pairs.{inner_places, inner_places_from}

pub behind_nothing : (ps : List (List ℕ)) → map (λ p. [] ++ p) ps ≡ ps
behind_nothing [] = refl
behind_nothing (p ∷ ps) = ap (λ qs. p ∷ qs) (behind_nothing ps)

one_further : (xs : List ℕ) (x : ℕ) (ys : List ℕ) → (xs ++ x ∷ []) ++ ys ≡ xs ++ x ∷ ys
one_further [] x ys = refl
one_further (z ∷ xs) x ys = ap (λ zs. z ∷ zs) (one_further xs x ys)

below_one : (above : List ℕ) (k : ℕ) (ps : List (List ℕ))
    → map (λ p. (above ++ k ∷ []) ++ p) ps ≡ map (λ p. above ++ p) (map (λ p. k ∷ p) ps)
below_one above k ps =
    map_by (λ p. (above ++ k ∷ []) ++ p) (λ p. above ++ k ∷ p) ps (λ p c. one_further above k p)
    ∙ sym (map_map (λ p. above ++ p) (λ p. k ∷ p) ps)

joined : (found xs ys : List (List ℕ)) → (found ++ xs) ++ ys ≡ found ++ (xs ++ ys)
joined [] xs ys = refl
joined (f ∷ found) xs ys = ap (λ zs. f ∷ zs) (joined found xs ys)

-- the places of one argument more
pub places_step : (found all : List (List ℕ)) (above : List ℕ) (i : ℕ) (ts : List Tree) (t : Tree) → i < length ts
    → t ≡ get_or ts i t
    → found ++ map (λ p. above ++ p) (inner_places_from i (forest_of (drop i ts))) ≡ all
    → (found ++ map (λ p. (above ++ suc i ∷ []) ++ p) (inner_places t))
    ++ map (λ p. above ++ p) (inner_places_from (suc i) (forest_of (drop (suc i) ts))) ≡ all
places_step found all above i ts t lt is h =
    let a : drop i ts ≡ t ∷ drop (suc i) ts = drop-cons ts i t lt ∙ ap (λ z. z ∷ drop (suc i) ts) (sym is) in
    joined found (map (λ p. (above ++ suc i ∷ []) ++ p) (inner_places t))
    (map (λ p. above ++ p) (inner_places_from (suc i) (forest_of (drop (suc i) ts))))
    ∙ ap (λ xs. found ++ (xs ++ map (λ p. above ++ p) (inner_places_from (suc i) (forest_of (drop (suc i) ts)))))
    (below_one above (suc i) (inner_places t))
    ∙ ap (λ xs. found ++ xs)
    (sym (map-append (λ p. above ++ p) (map (λ p. suc i ∷ p) (inner_places t))
    (inner_places_from (suc i) (forest_of (drop (suc i) ts)))))
    ∙ ap (λ us. found ++ map (λ p. above ++ p) (inner_places_from i (forest_of us))) (sym a)
    ∙ h

pub places_next : (found all new : List (List ℕ)) (above place : List ℕ) (i : ℕ) (ts : List Tree) (t : Tree)
    → i < length ts → t ≡ get_or ts i t
    → place ≡ above ++ (i + 1) ∷ [] → new ≡ found ++ map (λ p. place ++ p) (inner_places t)
    → found ++ map (λ p. above ++ p) (inner_places_from i (forest_of (drop i ts))) ≡ all
    → new ++ map (λ p. above ++ p) (inner_places_from (i + 1) (forest_of (drop (i + 1) ts))) ≡ all
places_next found all new above place i ts t lt is e1 e2 h =
    let k : i + 1 ≡ suc i = omega arith in
    let p : place ≡ above ++ suc i ∷ [] = e1 ∙ ap (λ m. above ++ m ∷ []) k in
    ap (λ zs. zs ++ map (λ p. above ++ p) (inner_places_from (i + 1) (forest_of (drop (i + 1) ts))))
    (e2 ∙ ap (λ q. found ++ map (λ r. q ++ r) (inner_places t)) p)
    ∙ ap (λ j. (found ++ map (λ p. (above ++ suc i ∷ []) ++ p) (inner_places t))
    ++ map (λ p. above ++ p) (inner_places_from j (forest_of (drop j ts)))) k
    ∙ places_step found all above i ts t lt is h

pub behind_found : (new found : List (List ℕ)) (root : List ℕ) (ps : List (List ℕ))
    → new ≡ found ++ map (λ p. root ++ p) ps → found ≡ [] → root ≡ [] → new ≡ ps
behind_found new found root ps e f r = e ∙ (λ i. f i ++ map (λ p. r i ++ p) ps) ∙ behind_nothing ps
