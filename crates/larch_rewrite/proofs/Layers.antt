-- Rules that lie in layers.
use Rattle.std.specs.Prelude.{◌≡◌, ◌+◌, ◌-◌, ◌<◌, ◌≤◌, ◌||◌, ℕ, zero, suc, Bool, true, false, List, ◌∷◌, [], ◌++◌}
use Rattle.std.specs.Prelude.{length, map, take, drop, slice_get}
use Rattle.std.specs.Prelude.{get_or, not, refl}
use Rattle.std.specs.List.{list_any}
use Rattle.std.proofs.Common.{ap, append_assoc, arith, sym, ◌∙◌}
use Rattle.std.proofs.lemmas.List.{drop_more, map_push}
use Rattle.std.proofs.lemmas.List.Elements.{filter-append}
use Rattle.std.proofs.lemmas.List.Folds.{list_any-append}
use Rattle.larch_base.specs.declared.fact_name.FactName.{FactName}
use Rattle.larch_store.specs.Layers.{join_layers}
use Rattle.larch_store.proofs.Layered.{joined_last, joined_more, joined_parts}
use Rattle.larch_rewrite.specs.RuleSet.{PlainRule, has_name, without}

-- ---- names

either_true : (a b : Bool) → b ≡ true → (a || b) ≡ true
either_true true b h = refl
either_true false b h = h

first_true : (a b : Bool) → a ≡ true → (a || b) ≡ true
first_true true b h = refl
first_true false b h = absurd cc

both_false : (a b : Bool) → a ≡ false → b ≡ false → (a || b) ≡ false
both_false true b h g = h
both_false false b h g = g

-- the layers so far and a further one, which has the name or hasn't
pub named_more : {R : Type 0} (v : R → List PlainRule) (name : FactName) (rs : List R) (i : ℕ) (r : R)
    → r ≡ get_or rs i r → i < length rs → list_any (has_name name) (join_layers (map v (take i rs))) ≡ false
    → list_any (has_name name) (v r) ≡ false
    → list_any (has_name name) (join_layers (map v (take (i + 1) rs))) ≡ false
named_more v name rs i r is lt h g =
    ap (list_any (has_name name)) (joined_more v rs i r is lt)
    ∙ list_any-append (has_name name) (join_layers (map v (take i rs))) (v r)
    ∙ both_false (list_any (has_name name) (join_layers (map v (take i rs)))) (list_any (has_name name) (v r)) h g

pub named_here : {R : Type 0} (v : R → List PlainRule) (name : FactName) (rs : List R) (i : ℕ) (r : R)
    → r ≡ get_or rs i r → i < length rs → list_any (has_name name) (v r) ≡ true
    → list_any (has_name name) (join_layers (map v rs)) ≡ true
named_here v name rs i r is lt g =
    let before = join_layers (map v (take i rs)) in
    let behind = join_layers (map v (drop (i + 1) rs)) in
    ap (list_any (has_name name)) (joined_parts v rs (i + 1) ∙ ap (λ es. es ++ behind) (joined_more v rs i r is lt))
    ∙ list_any-append (has_name name) (before ++ v r) behind
    ∙ first_true (list_any (has_name name) (before ++ v r)) (list_any (has_name name) behind)
    (list_any-append (has_name name) before (v r)
    ∙ either_true (list_any (has_name name) before) (list_any (has_name name) (v r)) g)

-- the last layer, and the earlier ones
pub named_last : (name : FactName) (es ls : List PlainRule) (b : Bool) → b ≡ list_any (has_name name) ls → b ≡ true
    → true ≡ list_any (has_name name) (es ++ ls)
named_last name es ls b e h =
    sym (list_any-append (has_name name) es ls
    ∙ either_true (list_any (has_name name) es) (list_any (has_name name) ls) (sym e ∙ h))

or_false : (a b : Bool) → b ≡ false → (a || b) ≡ a
or_false true b h = refl
or_false false b h = h

pub named_earlier : (name : FactName) (es ls : List PlainRule) (b c : Bool) → b ≡ list_any (has_name name) ls
    → b ≡ false → c ≡ list_any (has_name name) es → c ≡ list_any (has_name name) (es ++ ls)
named_earlier name es ls b c e h g =
    g ∙ sym (list_any-append (has_name name) es ls
    ∙ or_false (list_any (has_name name) es) (list_any (has_name name) ls) (sym e ∙ h))

-- ---- those that have another name

pub others_both : (name : FactName) (es fs others further : List PlainRule) → others ≡ without name es
    → further ≡ without name fs → others ++ further ≡ without name (es ++ fs)
others_both name es fs others further p q =
    ap (λ xs. xs ++ further) p ∙ ap (λ xs. without name es ++ xs) q
    ∙ sym (filter-append (λ r. not (has_name name r)) es fs)

pub others_more : {R : Type 0} (v : R → List PlainRule) (name : FactName) (rs qs ps : List R) (i : ℕ) (r q : R)
    → r ≡ get_or rs i r → i < length rs
    → join_layers (map v qs) ≡ without name (join_layers (map v (take i rs))) → v q ≡ without name (v r)
    → ps ≡ qs ++ q ∷ [] → join_layers (map v ps) ≡ without name (join_layers (map v (take (i + 1) rs)))
others_more v name rs qs ps i r q is lt h g p =
    ap (λ xs. join_layers (map v xs)) p ∙ ap join_layers (map_push v qs q) ∙ joined_last (map v qs) (v q)
    ∙ ap (λ es. es ++ v q) h ∙ ap (λ es. without name (join_layers (map v (take i rs))) ++ es) g
    ∙ sym (filter-append (λ x. not (has_name name x)) (join_layers (map v (take i rs))) (v r))
    ∙ ap (without name) (sym (joined_more v rs i r is lt))

-- ---- places

-- a place in one of two lists
got_first : {X : Type 0} (xs ys : List X) (i : ℕ) → i < length xs → slice_get (xs ++ ys) i ≡ slice_get xs i
got_first [] ys i h = absurd (omega (arith, h))
got_first (x ∷ xs) ys zero h = refl
got_first (x ∷ xs) ys (suc i) h = got_first xs ys i (omega (arith, h))

got_behind : {X : Type 0} (xs ys : List X) (i k : ℕ) → i ≡ length xs + k → slice_get (xs ++ ys) i ≡ slice_get ys k
got_behind [] ys i k e = ap (slice_get ys) (omega (arith, e))
got_behind (x ∷ xs) ys zero k e = absurd (omega (arith, e))
got_behind (x ∷ xs) ys (suc i) k e = got_behind xs ys i k (omega (arith, e))

next_layer : {R X : Type 0} (v : R → List X) (rs : List R) (i : ℕ) (r : R) → r ≡ get_or rs i r → i < length rs
    → join_layers (map v (drop i rs)) ≡ v r ++ join_layers (map v (drop (i + 1) rs))
next_layer v rs i r is lt =
    ap (λ es. join_layers (map v es)) (drop_more rs i r lt)
    ∙ ap (λ x. v x ++ join_layers (map v (drop (i + 1) rs))) (sym is)

-- the place is in the next layer
pub got_here : {R X : Type 0} (v : R → List X) (rs : List R) (last : List X) (i n : ℕ) (r : R)
    → r ≡ get_or rs i r → i < length rs → n < length (v r)
    → slice_get (join_layers (map v (drop i rs)) ++ last) n ≡ slice_get (v r) n
got_here v rs last i n r is lt h =
    ap (λ es. slice_get (es ++ last) n) (next_layer v rs i r is lt)
    ∙ ap (λ es. slice_get es n) (append_assoc (v r) (join_layers (map v (drop (i + 1) rs))) last)
    ∙ got_first (v r) (join_layers (map v (drop (i + 1) rs)) ++ last) n h

-- or in a further one
pub got_further : {R X : Type 0} (v : R → List X) (rs : List R) (last : List X) (i n : ℕ) (r : R)
    → r ≡ get_or rs i r → i < length rs → length (v r) ≤ n
    → slice_get (join_layers (map v (drop i rs)) ++ last) n
    ≡ slice_get (join_layers (map v (drop (i + 1) rs)) ++ last) (n - length (v r))
got_further v rs last i n r is lt h =
    ap (λ es. slice_get (es ++ last) n) (next_layer v rs i r is lt)
    ∙ ap (λ es. slice_get es n) (append_assoc (v r) (join_layers (map v (drop (i + 1) rs))) last)
    ∙ got_behind (v r) (join_layers (map v (drop (i + 1) rs)) ++ last) n (n - length (v r)) (omega (arith, h))
