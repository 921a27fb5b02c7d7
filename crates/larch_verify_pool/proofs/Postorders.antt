-- Terms are listed in postorder, and read from such a list.
use Rattle.std.proofs.Common.{◌≡◌, ℕ, ◌+◌, ◌-◌, ◌<◌, List, [], ◌∷◌, ◌++◌, length, map, take, drop, All, Some}
use Rattle.std.proofs.Common.{slice_get, refl, sym, ◌∙◌, ap, subst, arith, append_assoc, append-nil, length-append}
use Rattle.std.specs.Prelude.{reverse}
use Rattle.std.proofs.lemmas.List.{drop-map, drop_at, length-map, length_push, map_push, reverse-append, take-map}
use Rattle.std.proofs.lemmas.List.{take_at}
use Rattle.std.proofs.lemmas.List.Elements.{All-head, All-push, All-take}
use Rattle.std.proofs.lemmas.Option.{slice_get-get_or, slice_get_within}
use Rattle.larch_term.specs.Operator.{PlainOperator}
use Rattle.larch_term.specs.Tree.{Tree, Forest, var, app, none, more, forest_of, list_of}
use Rattle.larch_term.proofs.TreeLists.{forest_of-list_of, list_of-forest_of}
use Rattle.larch_verify_pool.specs.Pooled.{tree_in, no_tree}
use Rattle.larch_verify_pool.specs.Postorder.{postorder, postorder_all, postorders, read_all, read_behind}
use Rattle.larch_verify_pool.proofs.Front.{all_within, numbers_more}

-- ---- reading

arguments_read : (f : PlainOperator) (ts : Forest) (us : List Tree)
    → read_behind (us ++ list_of ts) (app f ts) ≡ us ++ app f ts ∷ []
arguments_read f ts us =
    let k : length (us ++ list_of ts) - length (list_of ts) ≡ length us =
    omega (arith, length-append us (list_of ts)) in
    ap (λ n. take n (us ++ list_of ts) ++ app f (forest_of (drop n (us ++ list_of ts))) ∷ []) k
    ∙ ap (λ xs. xs ++ app f (forest_of (drop (length us) (us ++ list_of ts))) ∷ [])
    (take_at us (list_of ts) (length us) refl)
    ∙ ap (λ xs. us ++ app f (forest_of xs) ∷ []) (drop_at us (list_of ts) (length us) refl)
    ∙ ap (λ xs. us ++ app f xs ∷ []) (forest_of-list_of ts)

mutual
  read_term : (t : Tree) (rest us : List Tree) → read_all us (postorder t ++ rest) ≡ read_all (us ++ t ∷ []) rest
  read_term (var n s) rest us = refl
  read_term (app f ts) rest us =
      ap (read_all us) (append_assoc (postorder_all ts) (app f ts ∷ []) rest)
      ∙ read_terms ts (app f ts ∷ rest) us
      ∙ ap (λ vs. read_all vs rest) (arguments_read f ts us)

  read_terms : (ts : Forest) (rest us : List Tree)
      → read_all us (postorder_all ts ++ rest) ≡ read_all (us ++ list_of ts) rest
  read_terms none rest us = ap (λ vs. read_all vs rest) (sym (append-nil us))
  read_terms (more t ts) rest us =
      ap (read_all us) (append_assoc (postorder t) (postorder_all ts) rest)
      ∙ read_term t (postorder_all ts ++ rest) us
      ∙ read_terms ts rest (us ++ t ∷ [])
      ∙ ap (λ vs. read_all vs rest) (append_assoc us (t ∷ []) (list_of ts))

-- the whole term
pub read_whole : (t : Tree) → read_all [] (postorder t) ≡ t ∷ []
read_whole t = ap (read_all []) (sym (append-nil (postorder t))) ∙ read_term t [] []

-- the newest of a list is the first of those that are read
popped_first : {X : Type 0} (order popped : List X) (x : X) (now : X → Tree) → order ≡ popped ++ x ∷ []
    → map now (reverse order) ≡ now x ∷ map now (reverse popped)
popped_first order popped x now w = ap (λ os. map now (reverse os)) w ∙ ap (map now) (reverse-append popped (x ∷ []))

-- one term more is read
pub read_more : {X : Type 0} (order popped : List X) (x : X) (now : X → Tree) (us vs whole : List Tree)
    → order ≡ popped ++ x ∷ [] → vs ≡ read_behind us (now x) → read_all us (map now (reverse order)) ≡ whole
    → read_all vs (map now (reverse popped)) ≡ whole
read_more order popped x now us vs whole w e h =
    ap (λ zs. read_all zs (map now (reverse popped))) e ∙ ap (read_all us) (sym (popped_first order popped x now w)) ∙ h

-- one number is left
one_left : (us : List Tree) (ns : List ℕ) (t : Tree) → map (tree_in us) ns ≡ t ∷ [] → length ns ≡ 1
one_left us ns t e = sym (length-map ns (tree_in us)) ∙ ap length e

pub none_left : (us : List Tree) (ns : List ℕ) (t : Tree) → map (tree_in us) ns ≡ t ∷ [] → ns ≡ [] → ⊥
none_left us ns t h e = let k : [] ≡ t ∷ [] = ap (map (tree_in us)) (sym e) ∙ h in cc

-- it is the term's
pub last_left : (us : List Tree) (ns ms : List ℕ) (n : ℕ) (t : Tree) → All (λ m. m < length us) ns → ns ≡ ms ++ n ∷ []
    → map (tree_in us) ns ≡ t ∷ [] → slice_get us n ≡ Some t
last_left us ns [] n t a e h =
    let k : tree_in us n ∷ [] ≡ t ∷ [] = ap (map (tree_in us)) (sym e) ∙ h in
    let x : tree_in us n ≡ t = cc in
    let l : n < length us =
    All-head (λ m. m < length us) n [] (subst (λ xs. All (λ m. m < length us) xs) e a) in
    slice_get-get_or us n no_tree l ∙ ap Some x
last_left us ns (m ∷ ms) n t a e h =
    let k : length ns ≡ 1 = one_left us ns t h in
    let l : length ns ≡ length (m ∷ ms) + 1 = ap length e ∙ length_push (m ∷ ms) n in
    absurd (omega (arith, k, l))

-- ---- a node more

within_more : (us vs : List Tree) (rest new : List ℕ) (n : ℕ) (t : Tree) → take (length us) vs ≡ us
    → All (λ m. m < length us) rest → new ≡ rest ++ n ∷ [] → slice_get vs n ≡ Some t → All (λ m. m < length vs) new
within_more us vs rest new n t f a p h =
    subst (λ xs. All (λ m. m < length vs) xs) (sym p)
    (All-push (λ m. m < length vs) rest n (all_within us vs rest f a) (slice_get_within vs n t h))

pub variable_behind : (us vs : List Tree) (old new : List ℕ) (k : ℕ) (n s : List ℕ) (t : Tree) → var n s ≡ t
    → take (length us) vs ≡ us → All (λ m. m < length us) old → new ≡ old ++ k ∷ [] → slice_get vs k ≡ Some (var n s)
    → map (tree_in vs) new ≡ read_behind (map (tree_in us) old) t
variable_behind us vs old new k n s t e f a p h =
    ap (map (tree_in vs)) p ∙ numbers_more us vs (map (tree_in us) old) old k (var n s) f a refl h
    ∙ ap (read_behind (map (tree_in us) old)) e

pub part_within : (us : List Tree) (old part : List ℕ) (k : ℕ) → part ≡ take k old → All (λ m. m < length us) old
    → All (λ m. m < length us) part
part_within us old part k e a =
    subst (λ xs. All (λ m. m < length us) xs) (sym e) (All-take (λ m. m < length us) k old a)

pub application_within : (us vs : List Tree) (old rest new : List ℕ) (k n : ℕ) (t : Tree) → take (length us) vs ≡ us
    → rest ≡ take k old → All (λ m. m < length us) old → new ≡ rest ++ n ∷ [] → slice_get vs n ≡ Some t
    → All (λ m. m < length vs) new
application_within us vs old rest new k n t f r a p h =
    within_more us vs rest new n t f (part_within us old rest k r a) p h

pub application_behind : (us vs : List Tree) (f : PlainOperator) (args : List Tree) (t : Tree)
    (old rest last new : List ℕ) (k n : ℕ) → app f (forest_of args) ≡ t → k ≡ length args
    → last ≡ drop (length old - k) old → rest ≡ take (length old - k) old → take (length us) vs ≡ us
    → All (λ m. m < length us) old → new ≡ rest ++ n ∷ []
    → slice_get vs n ≡ Some (app f (forest_of (map (tree_in us) last)))
    → map (tree_in vs) new ≡ read_behind (map (tree_in us) old) t
application_behind us vs f args t old rest last new k n e c l r g a p h =
    let xs : List Tree = map (tree_in us) old in
    let m : ℕ = length xs - length (list_of (forest_of args)) in
    let j : length old - k ≡ m =
    omega (arith, c, length-map old (tree_in us), ap length (list_of-forest_of args)) in
    let x : map (tree_in us) rest ≡ take m xs =
    ap (map (tree_in us)) r ∙ sym (take-map (tree_in us) (length old - k) old) ∙ ap (λ i. take i xs) j in
    let y : map (tree_in us) last ≡ drop m xs =
    ap (map (tree_in us)) l ∙ sym (drop-map (tree_in us) (length old - k) old) ∙ ap (λ i. drop i xs) j in
    ap (map (tree_in vs)) p
    ∙ numbers_more us vs (map (tree_in us) rest) rest n (app f (forest_of (map (tree_in us) last))) g
    (part_within us old rest (length old - k) r a) refl h
    ∙ (λ i. x i ++ app f (forest_of (y i)) ∷ [])
    ∙ ap (read_behind xs) e

-- ---- listing

postorders_append : (xs ys : List Tree) → postorders (xs ++ ys) ≡ postorders xs ++ postorders ys
postorders_append [] ys = refl
postorders_append (x ∷ xs) ys =
    ap (λ zs. postorder x ++ zs) (postorders_append xs ys)
    ∙ sym (append_assoc (postorder x) (postorders xs) (postorders ys))

postorders_push : (ws : List Tree) (x : Tree) → postorders (ws ++ x ∷ []) ≡ postorders ws ++ postorder x
postorders_push ws x = postorders_append ws (x ∷ []) ∙ ap (λ xs. postorders ws ++ xs) (append-nil (postorder x))

arguments_order : (ts : List Tree) → postorder_all (forest_of ts) ≡ postorders ts
arguments_order [] = refl
arguments_order (t ∷ ts) = ap (λ xs. postorder t ++ xs) (arguments_order ts)

-- a term's arguments are put behind others
pub arguments_pushed : (old args : List Tree) (f : PlainOperator) (t : Tree) → app f (forest_of args) ≡ t
    → postorders (old ++ args) ++ t ∷ [] ≡ postorders old ++ postorder t
arguments_pushed old args f t e =
    ap (λ xs. xs ++ t ∷ []) (postorders_append old args) ∙ append_assoc (postorders old) (postorders args) (t ∷ [])
    ∙ ap (λ xs. postorders old ++ xs)
    (ap (λ xs. xs ++ t ∷ []) (sym (arguments_order args))
    ∙ ap (λ u. postorder_all (forest_of args) ++ u ∷ []) (sym e) ∙ ap postorder e)

-- a variable has none
pub variable_pushed : (old : List Tree) (n s : List ℕ) (t : Tree) → var n s ≡ t
    → postorders old ++ t ∷ [] ≡ postorders old ++ postorder t
variable_pushed old n s t e = ap (λ xs. postorders old ++ xs) (ap (λ u. u ∷ []) (sym e) ∙ ap postorder e)

-- a term is taken from those that wait, and its arguments are put there
pub order_more : {X : Type 0} (waiting popped left order pushed : List X) (x : X) (now : X → Tree) (whole : List Tree)
    → waiting ≡ popped ++ x ∷ [] → pushed ≡ order ++ x ∷ []
    → postorders (map now left) ++ now x ∷ [] ≡ postorders (map now popped) ++ postorder (now x)
    → postorders (map now waiting) ++ map now (reverse order) ≡ whole
    → postorders (map now left) ++ map now (reverse pushed) ≡ whole
order_more waiting popped left order pushed x now whole w o p h =
    ap (λ xs. postorders (map now left) ++ xs) (popped_first pushed order x now o)
    ∙ sym (append_assoc (postorders (map now left)) (now x ∷ []) (map now (reverse order)))
    ∙ ap (λ xs. xs ++ map now (reverse order))
    (p ∙ sym (postorders_push (map now popped) (now x))
    ∙ ap postorders (sym (ap (map now) w ∙ map_push now popped x))) ∙ h

-- fewer terms wait then, with those in them
pub waiting_less : {X : Type 0} (waiting popped left : List X) (x : X) (now : X → Tree) → waiting ≡ popped ++ x ∷ []
    → postorders (map now left) ++ now x ∷ [] ≡ postorders (map now popped) ++ postorder (now x)
    → length (postorders (map now left)) < length (postorders (map now waiting))
waiting_less waiting popped left x now w p =
    let e : postorders (map now left) ++ now x ∷ [] ≡ postorders (map now waiting) =
    p ∙ sym (postorders_push (map now popped) (now x)) ∙ ap postorders (sym (ap (map now) w ∙ map_push now popped x)) in
    omega (arith, ap length e, length_push (postorders (map now left)) (now x))
