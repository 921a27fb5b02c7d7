-- Shared terms that lie in layers, and their keys.
use Rattle.std.proofs.Common.{◌≡◌, ℕ, ◌+◌, ◌-◌, ◌<◌, ◌≤◌, Bool, true, false, List, [], ◌∷◌, ◌++◌, map, length, take}
use Rattle.std.proofs.Common.{drop}
use Rattle.std.proofs.Common.{get_or, slice_get, Contains, Option, Some, None, is_some, option_map, refl, sym, ◌∙◌, ap}
use Rattle.std.proofs.Common.{subst, arith}
use Rattle.std.proofs.Common.{append_assoc, append-nil, true≢false}
use Rattle.std.specs.Cmp.{IsEquivalence, decided}
use Rattle.std.specs.Bool.{Decides}
use Rattle.std.specs.List.{IsDistinct, flat_map, list_any}
use Rattle.std.specs.Map.{keys_of, lookup}
use Rattle.std.proofs.lemmas.Grind.{flat_map-append}
use Rattle.std.proofs.lemmas.List.{length-drop, length-map, length_push, map-append, map_push, take-append-drop}
use Rattle.std.proofs.lemmas.List.{take_all, take_more}
use Rattle.std.proofs.lemmas.Option.{get_or_from_slice_get, slice_get-get_or, slice_get-map, slice_get_within}
use Rattle.std.proofs.lemmas.Map.Keys.{IsDistinct-push}
use Rattle.std.proofs.lemmas.Map.Made.{is_some-lookup}
use Rattle.std.proofs.lemmas.Map.Views.{Contains-from_lookup}
use Rattle.indexmap.proofs.MapLemmas.{absent_from_lookup, insert_entry-absent}
use Rattle.indexmap.specs.IndexMap.{insert_entry}
use Rattle.larch_base.proofs.Members.{contains_flat_map, contains_got, contains_left, contains_map, contains_right}
use Rattle.larch_base.proofs.Members.{got_contains}
use Rattle.larch_store.specs.Layers.{join_layers, shared_in}
use Rattle.larch_store.specs.Numbered.{Numbered}
use Rattle.larch_store.specs.declared.key.Key.{Key}
use Rattle.larch_store.specs.contracts.key.KeyPartialEq.TheImpl as key_eq
use Rattle.larch_store.proofs.Distinct.{absent_both, absent_left, absent_right, distinct_absent, distinct_left}
use Rattle.larch_store.proofs.Distinct.{distinct_right}
use Rattle.larch_store.proofs.Same.{same_key, self_key}

abbrev Entries : Type 0
Entries = List (Key × Numbered)

abbrev eq : Key → Key → Bool
eq = key_eq.ghosts.eq

key_decides : (x y : Key) → Decides (eq x y) (x ≡ y)
key_decides x y = (same_key x y, λ e. subst (λ z. eq x z ≡ true) e (self_key x))

pub key_equivalence : IsEquivalence key_eq.ghosts.eq
key_equivalence = decided eq key_decides

-- ---- one layer

pub got_entry : (es : List (Key × Numbered)) (k : Key) (x : Numbered) → Some x ≡ lookup (key_eq.ghosts.eq k) es
    → Contains es (k, x)
got_entry es k x e = Contains-from_lookup same_key k x es (sym e)

pub got_none : (es : List (Key × Numbered)) (k : Key) → None ≡ lookup (key_eq.ghosts.eq k) es
    → list_any (key_eq.ghosts.eq k) (keys_of es) ≡ false
got_none es k e = sym (is_some-lookup (eq k) es) ∙ ap is_some (sym e)

none_of : {X : Type 0} (o : Option X) → is_some o ≡ false → o ≡ None
none_of None e = refl
none_of (Some x) e = absurd (true≢false e)

pub put_behind : (es more : List (Key × Numbered)) (k : Key) (x : Numbered)
    → more ≡ insert_entry key_eq.ghosts.eq es k x → list_any (key_eq.ghosts.eq k) (keys_of es) ≡ false
    → more ≡ es ++ (k, x) ∷ []
put_behind es more k x e h =
    e ∙ insert_entry-absent eq k x es
    (absent_from_lookup (eq k) es (none_of (lookup (eq k) es) (is_some-lookup (eq k) es ∙ h)))

-- ---- keys of parts

keys_append : (es fs : List (Key × Numbered)) → keys_of (es ++ fs) ≡ keys_of es ++ keys_of fs
keys_append es fs = map-append (λ e. e.0) es fs

pub keys_pushed : (es : List (Key × Numbered)) (k : Key) (x : Numbered)
    → keys_of (es ++ (k, x) ∷ []) ≡ keys_of es ++ k ∷ []
keys_pushed es k x = keys_append es ((k, x) ∷ [])

pub shared_pushed : (es : List (Key × Numbered)) (k : Key) (x : Numbered)
    → shared_in (es ++ (k, x) ∷ []) ≡ shared_in es ++ x ∷ []
shared_pushed es k x = map-append (λ e. e.1) es ((k, x) ∷ [])

pub absent_first : (k : Key) (es fs : List (Key × Numbered))
    → list_any (key_eq.ghosts.eq k) (keys_of (es ++ fs)) ≡ false → list_any (key_eq.ghosts.eq k) (keys_of es) ≡ false
absent_first k es fs h =
    absent_left (eq k) (keys_of es) (keys_of fs) (ap (list_any (eq k)) (sym (keys_append es fs)) ∙ h)

pub absent_last : (k : Key) (es fs : List (Key × Numbered))
    → list_any (key_eq.ghosts.eq k) (keys_of (es ++ fs)) ≡ false → list_any (key_eq.ghosts.eq k) (keys_of fs) ≡ false
absent_last k es fs h =
    absent_right (eq k) (keys_of es) (keys_of fs) (ap (list_any (eq k)) (sym (keys_append es fs)) ∙ h)

pub differ_last : (es fs : List (Key × Numbered)) → IsDistinct key_eq.ghosts.eq (keys_of (es ++ fs))
    → IsDistinct key_eq.ghosts.eq (keys_of fs)
differ_last es fs h = distinct_right eq (keys_of es) (keys_of fs) (subst (IsDistinct eq) (keys_append es fs) h)

pub differ_first : (es fs : List (Key × Numbered)) → IsDistinct key_eq.ghosts.eq (keys_of (es ++ fs))
    → IsDistinct key_eq.ghosts.eq (keys_of es)
differ_first es fs h = distinct_left eq (keys_of es) (keys_of fs) (subst (IsDistinct eq) (keys_append es fs) h)

-- keys that differ still do with one more that is none of them
pub differ_pushed : (es : List (Key × Numbered)) (k : Key) (x : Numbered)
    → IsDistinct key_eq.ghosts.eq (keys_of es) → list_any (key_eq.ghosts.eq k) (keys_of es) ≡ false
    → IsDistinct key_eq.ghosts.eq (keys_of (es ++ (k, x) ∷ []))
differ_pushed es k x d a =
    subst (IsDistinct eq) (sym (keys_pushed es k x)) (IsDistinct-push key_equivalence (keys_of es) k d a)

-- the key at a place is none of those before it
pub differ_at : (es fs : List (Key × Numbered)) (i : ℕ) (k : Key) (x : Numbered)
    → IsDistinct key_eq.ghosts.eq (keys_of (es ++ fs)) → i < length fs → get_or fs i (k, x) ≡ (k, x)
    → list_any (key_eq.ghosts.eq k) (keys_of (es ++ take i fs)) ≡ false
differ_at es fs i k x d lt is =
    let p : take i fs ++ ((k, x) ∷ []) ≡ take (i + 1) fs =
    ap (λ z. take i fs ++ z ∷ []) (sym is) ∙ sym (take_more fs i (k, x) lt) in
    let q : (es ++ take i fs) ++ ((k, x) ∷ drop (i + 1) fs) ≡ es ++ fs =
    append_assoc es (take i fs) ((k, x) ∷ drop (i + 1) fs)
    ∙ ap (λ gs. es ++ gs)
    (sym (append_assoc (take i fs) ((k, x) ∷ []) (drop (i + 1) fs))
    ∙ ap (λ gs. gs ++ drop (i + 1) fs) p ∙ take-append-drop (i + 1) fs) in
    let w : IsDistinct eq (keys_of ((es ++ take i fs) ++ ((k, x) ∷ drop (i + 1) fs))) =
    subst (λ gs. IsDistinct eq (keys_of gs)) (sym q) d in
    distinct_absent eq key_equivalence (keys_of (es ++ take i fs)) k (keys_of (drop (i + 1) fs))
    (subst (IsDistinct eq) (keys_append (es ++ take i fs) ((k, x) ∷ drop (i + 1) fs)) w)

-- ---- several layers

pub joined_append : {X : Type 0} (xs ys : List (List X)) → join_layers (xs ++ ys) ≡ join_layers xs ++ join_layers ys
joined_append xs ys = flat_map-append (λ x. x) xs ys

joined_one : {X : Type 0} (x : List X) → join_layers (x ∷ []) ≡ x
joined_one x = append-nil x

pub joined_last : {X : Type 0} (xs : List (List X)) (x : List X) → join_layers (xs ++ x ∷ []) ≡ join_layers xs ++ x
joined_last xs x = joined_append xs (x ∷ []) ∙ ap (λ y. join_layers xs ++ y) (joined_one x)

-- ---- what is found under a key, and what is put there

pub found_under : (es : List (Key × Numbered)) (k : Key) (x : Numbered) → Contains es (k, x)
    → (i : ℕ) × (slice_get (keys_of es) i ≡ Some k) × (slice_get (shared_in es) i ≡ Some x)
found_under es k x c =
    let w = contains_got es (k, x) c in (
      w.0,
      slice_get-map (λ e. e.0) es w.0 ∙ ap (option_map (λ e. e.0)) w.1,
      slice_get-map (λ e. e.1) es w.0 ∙ ap (option_map (λ e. e.1)) w.1,
    )

pub keys_put : (es new : List (Key × Numbered)) (k l : Key) (x : Numbered) → new ≡ es ++ (k, x) ∷ [] → k ≡ l
    → keys_of new ≡ keys_of es ++ l ∷ []
keys_put es new k l x e q = ap keys_of e ∙ keys_pushed es k x ∙ ap (λ j. keys_of es ++ j ∷ []) q

pub shared_put : (es new : List (Key × Numbered)) (k : Key) (x : ℕ → Numbered) → new ≡ es ++ (k, x (length es)) ∷ []
    → shared_in new ≡ shared_in es ++ x (length (shared_in es)) ∷ []
shared_put es new k x e =
    ap shared_in e ∙ shared_pushed es k (x (length es))
    ∙ ap (λ n. shared_in es ++ x n ∷ []) (sym (length-map es (λ entry. entry.1)))

-- what is answered is what is put
pub in_place : (es : List (Key × Numbered)) (x : ℕ → Numbered) (y : Numbered) → y ≡ x (length es)
    → y ≡ x (length (shared_in es))
in_place es x y e = e ∙ ap x (sym (length-map es (λ entry. entry.1)))

-- what lies in one of several layers
pub contains_joined : {R X : Type 0} (v : R → List X) (rs : List R) (i : ℕ) (r : R) (y : X) → r ≡ get_or rs i r
    → i < length rs → Contains (v r) y → Contains (join_layers (map v rs)) y
contains_joined v rs i r y is lt c =
    contains_flat_map (λ xs. xs) (map v rs) (v r) y
    (contains_map v rs r (got_contains rs i r (slice_get-get_or rs i r lt ∙ ap Some (sym is)))) c

-- the first of several layers and the next one
pub joined_more : {R X : Type 0} (v : R → List X) (rs : List R) (i : ℕ) (r : R) → r ≡ get_or rs i r → i < length rs
    → join_layers (map v (take (i + 1) rs)) ≡ join_layers (map v (take i rs)) ++ v r
joined_more v rs i r is lt =
    ap (λ qs. join_layers (map v qs)) (take_more rs i r lt ∙ ap (λ q. take i rs ++ q ∷ []) (sym is))
    ∙ ap join_layers (map_push v (take i rs) r) ∙ joined_last (map v (take i rs)) (v r)

-- the first layers and the others
pub joined_parts : {R X : Type 0} (v : R → List X) (rs : List R) (i : ℕ)
    → join_layers (map v rs) ≡ join_layers (map v (take i rs)) ++ join_layers (map v (drop i rs))
joined_parts v rs i =
    ap (λ qs. join_layers (map v qs)) (sym (take-append-drop i rs))
    ∙ ap join_layers (map-append v (take i rs) (drop i rs)) ∙ joined_append (map v (take i rs)) (map v (drop i rs))

-- layers that stay, and one of what lies in the others with something behind it
pub joined_begun : {R X : Type 0} (v : R → List X) (rs : List R) (i : ℕ) (ys more : List X)
    → more ≡ join_layers (map v (drop i rs)) ++ ys → join_layers (map v (take i rs)) ++ more ≡ join_layers
    (map v rs) ++ ys
joined_begun v rs i ys more e =
    ap (λ zs. join_layers (map v (take i rs)) ++ zs) e
    ∙ sym (append_assoc (join_layers (map v (take i rs))) (join_layers (map v (drop i rs))) ys)
    ∙ ap (λ zs. zs ++ ys) (sym (joined_parts v rs i))

-- ---- keys of what lies in layers

-- the next of some shared terms stands under a key that is none of those before it
pub next_absent : (es fs gs cur : List (Key × Numbered)) (i : ℕ) (k : Key) (x : Numbered)
    → IsDistinct key_eq.ghosts.eq (keys_of (es ++ fs)) → Some (k, x) ≡ slice_get gs i → gs ≡ fs
    → cur ≡ es ++ take i fs → list_any (key_eq.ghosts.eq k) (keys_of cur) ≡ false
next_absent es fs gs cur i k x d e q p =
    let g : slice_get fs i ≡ Some (k, x) = ap (λ hs. slice_get hs i) (sym q) ∙ sym e in
    ap (λ hs. list_any (eq k) (keys_of hs)) p
    ∙ differ_at es fs i k x d (slice_get_within fs i (k, x) g) (get_or_from_slice_get fs i (k, x) (k, x) g)

-- the first ones and the next one
pub next_put : (es fs gs cur new : List (Key × Numbered)) (i : ℕ) (k : Key) (x : Numbered)
    → Some (k, x) ≡ slice_get gs i → gs ≡ fs → cur ≡ es ++ take i fs → new ≡ cur ++ (k, x) ∷ []
    → new ≡ es ++ take (i + 1) fs
next_put es fs gs cur new i k x e q p n =
    let g : slice_get fs i ≡ Some (k, x) = ap (λ hs. slice_get hs i) (sym q) ∙ sym e in
    n ∙ ap (λ hs. hs ++ (k, x) ∷ []) p ∙ append_assoc es (take i fs) ((k, x) ∷ [])
    ∙ ap (λ hs. es ++ hs)
    (ap (λ z. take i fs ++ z ∷ []) (sym (get_or_from_slice_get fs i (k, x) (k, x) g))
    ∙ sym (take_more fs i (k, x) (slice_get_within fs i (k, x) g)))

pub differ_next : {R : Type 0} (v : R → List (Key × Numbered)) (rs : List R) (i : ℕ) (r : R)
    (one next : List (Key × Numbered)) → r ≡ get_or rs i r → i < length rs → one ≡ join_layers (map v (take i rs))
    → next ≡ v r → IsDistinct key_eq.ghosts.eq (keys_of (join_layers (map v rs)))
    → IsDistinct key_eq.ghosts.eq (keys_of (one ++ next))
differ_next v rs i r one next is lt p q d =
    let e : one ++ next ≡ join_layers (map v (take (i + 1) rs)) =
    ap (λ es. es ++ next) p ∙ ap (λ es. join_layers (map v (take i rs)) ++ es) q ∙ sym (joined_more v rs i r is lt) in
    subst (λ es. IsDistinct eq (keys_of es)) (sym e)
    (differ_first (join_layers (map v (take (i + 1) rs))) (join_layers (map v (drop (i + 1) rs)))
    (subst (λ es. IsDistinct eq (keys_of es)) (joined_parts v rs (i + 1)) d))

rest_taken : {R : Type 0} (rs : List R) (n : ℕ) → take (length rs - n) (drop n rs) ≡ drop n rs
rest_taken rs n = let e = length-drop n rs in take_all (length rs - n) (drop n rs) (omega (arith, e))

pub absent_rest : {R : Type 0} (v : R → List (Key × Numbered)) (rs ds : List R) (n : ℕ) (k : Key) → ds ≡ rs
    → list_any (key_eq.ghosts.eq k) (keys_of (join_layers (map v rs))) ≡ false
    → list_any (key_eq.ghosts.eq k) (keys_of (join_layers (map v (take (length ds - n) (drop n ds))))) ≡ false
absent_rest v rs ds n k q h =
    ap (λ cs. list_any (eq k) (keys_of (join_layers (map v cs)))) (ap (λ ws. take (length ws - n) (drop n ws)) q
    ∙ rest_taken rs n)
    ∙ absent_last k (join_layers (map v (take n rs))) (join_layers (map v (drop n rs)))
    (ap (λ es. list_any (eq k) (keys_of es)) (sym (joined_parts v rs n)) ∙ h)

pub differ_rest : {R : Type 0} (v : R → List (Key × Numbered)) (rs ds : List R) (n : ℕ) → ds ≡ rs
    → IsDistinct key_eq.ghosts.eq (keys_of (join_layers (map v rs)))
    → IsDistinct key_eq.ghosts.eq (keys_of (join_layers (map v (take (length ds - n) (drop n ds)))))
differ_rest v rs ds n q d =
    subst (λ cs. IsDistinct eq (keys_of (join_layers (map v cs))))
    (sym (ap (λ ws. take (length ws - n) (drop n ws)) q ∙ rest_taken rs n))
    (differ_last (join_layers (map v (take n rs))) (join_layers (map v (drop n rs)))
    (subst (λ es. IsDistinct eq (keys_of es)) (joined_parts v rs n) d))

-- the layers that stay, and a further one
pub begun : {R X : Type 0} (v : R → List X) (rs ds ts : List R) (n : ℕ) (more : List X) (x : X) → ds ≡ rs
    → ts ≡ take n rs → more ≡ join_layers (map v (take (length ds - n) (drop n ds))) ++ x ∷ []
    → join_layers (map v ts) ++ more ≡ join_layers (map v rs) ++ x ∷ []
begun v rs ds ts n more x q t e =
    ap (λ us. join_layers (map v us) ++ more) t
    ∙ joined_begun v rs n (x ∷ []) more
    (e ∙ ap (λ cs. join_layers (map v cs) ++ x ∷ []) (ap (λ ws. take (length ws - n) (drop n ws)) q ∙ rest_taken rs n))

-- all layers are the earlier ones and the last
pub absent_in_all : (k : Key) (all earlier : List (List (Key × Numbered))) (last : List (Key × Numbered))
    → all ≡ earlier ++ last ∷ [] → list_any (key_eq.ghosts.eq k) (keys_of (join_layers earlier ++ last)) ≡ false
    → list_any (key_eq.ghosts.eq k) (keys_of (join_layers all)) ≡ false
absent_in_all k all earlier last e h =
    ap (λ es. list_any (eq k) (keys_of es)) (ap join_layers e ∙ joined_last earlier last) ∙ h

pub differ_in_all : (all earlier : List (List (Key × Numbered))) (last : List (Key × Numbered))
    → all ≡ earlier ++ last ∷ [] → IsDistinct key_eq.ghosts.eq (keys_of (join_layers earlier ++ last))
    → IsDistinct key_eq.ghosts.eq (keys_of (join_layers all))
differ_in_all all earlier last e h =
    subst (λ es. IsDistinct eq (keys_of es)) (sym (ap join_layers e ∙ joined_last earlier last)) h

pub put_in_all : {X : Type 0} (all earlier : List (List X)) (last more : List X) (x : X) → all ≡ earlier ++ last ∷ []
    → more ≡ join_layers all ++ x ∷ [] → more ≡ (join_layers earlier ++ last) ++ x ∷ []
put_in_all all earlier last more x e p = p ∙ ap (λ es. es ++ x ∷ []) (ap join_layers e ∙ joined_last earlier last)

pub differ_put : (es more : List (Key × Numbered)) (k : Key) (x : Numbered) → more ≡ es ++ (k, x) ∷ []
    → IsDistinct key_eq.ghosts.eq (keys_of es) → list_any (key_eq.ghosts.eq k) (keys_of es) ≡ false
    → IsDistinct key_eq.ghosts.eq (keys_of more)
differ_put es more k x e d a = subst (λ fs. IsDistinct eq (keys_of fs)) (sym e) (differ_pushed es k x d a)

pub count_put : (es more : List (Key × Numbered)) (k : Key) (x : Numbered) (n : ℕ) → more ≡ es ++ (k, x) ∷ []
    → n ≡ length es → n + 1 ≡ length more
count_put es more k x n e q = ap (λ m. m + 1) q ∙ sym (length_push es (k, x)) ∙ sym (ap length e)

-- what is found in the last layer, in an earlier one, and nowhere
pub found_last : (es fs : List (Key × Numbered)) (k : Key) (x : Numbered) → Contains fs (k, x)
    → Contains (es ++ fs) (k, x)
found_last es fs k x c = contains_right es fs (k, x) c

pub found_earlier : (es fs : List (Key × Numbered)) (k : Key) (x : Numbered) → Contains es (k, x)
    → Contains (es ++ fs) (k, x)
found_earlier es fs k x c = contains_left es fs (k, x) c

pub found_nowhere : (es fs : List (Key × Numbered)) (k : Key)
    → list_any (key_eq.ghosts.eq k) (keys_of es) ≡ false → list_any (key_eq.ghosts.eq k) (keys_of fs) ≡ false
    → list_any (key_eq.ghosts.eq k) (keys_of (es ++ fs)) ≡ false
found_nowhere es fs k h g =
    ap (list_any (eq k)) (keys_append es fs) ∙ absent_both (eq k) (keys_of es) (keys_of fs) h g
