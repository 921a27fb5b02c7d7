-- Lists of terms compared as multisets.
use Rattle.std.proofs.Common.{◌≡◌, ℕ, zero, suc, ◌+◌, ◌<◌, ◌≤◌, ◌⊎◌, Bool, true, false, cond, List, [], ◌∷◌, map, refl}
use Rattle.std.proofs.Common.{sym, ◌∙◌, ap, subst, inl, inr, ⊎_elim, arith}
use Rattle.std.proofs.lemmas.Bool.{cond-true, cond-false, cases_Bool, cases_lt, false_from_ne_true}
use Rattle.std.proofs.lemmas.Bool.Decides.{not_from_Decides}
use Rattle.std.proofs.lemmas.List.Recursion.{is_sum_by}
use Rattle.larch_term.specs.Tree.{Tree}
use Rattle.larch_term.specs.Equality.{same_tree}
use Rattle.larch_order.specs.Greater.{count_of}
use Rattle.larch_term.proofs.Decided.{tree_Decides}

-- whether a term stands in a list
abbrev pub In : List Tree → Tree → Type 0
In [] x = ⊥
In (y ∷ ys) x = (y ≡ x) ⊎ In ys x

-- a sum over a list
abbrev pub total : (Tree → ℕ) → List Tree → ℕ
total g [] = 0
total g (x ∷ xs) = g x + total g xs

abbrev one_if : Bool → ℕ
one_if b = cond b 1 0

-- what a term adds to the count of another one
abbrev pub tally : Tree → Tree → ℕ
tally t u = one_if (same_tree u t)

-- how often a term occurs in a list, as a recursion
abbrev pub count : Tree → List Tree → ℕ
count t us = total (tally t) us

pub count_is : (t : Tree) (us : List Tree) → count_of t us ≡ count t us
count_is t us = sym (is_sum_by (total (tally t)) (tally t) refl (λ _ _. refl) us)

pub tree_cases : (t u : Tree) → (t ≡ u) ⊎ (t ≡ u → ⊥)
tree_cases t u =
    ⊎_elim (λ e. inl ((tree_Decides t u).0 e)) (λ e. inr (not_from_Decides (same_tree t u) (tree_Decides t u) e))
    (cases_Bool (same_tree t u))

pub tally_same : (t u : Tree) → u ≡ t → tally t u ≡ 1
tally_same t u e = ap one_if ((tree_Decides u t).1 e)

pub tally_other : (t u : Tree) → (u ≡ t → ⊥) → tally t u ≡ 0
tally_other t u n = ap one_if (false_from_ne_true (same_tree u t) (λ e. n ((tree_Decides u t).0 e)))

pub tally_is : (t u : Tree) → 0 < tally t u → u ≡ t
tally_is t u p = ⊎_elim (λ e. e) (λ n. absurd (omega (arith, p, tally_other t u n))) (tree_cases u t)

-- what occurs stands in the list
pub in_from_count : (t : Tree) (us : List Tree) → 0 < count t us → In us t
in_from_count t [] p = absurd (omega (arith, p))
in_from_count t (u ∷ us) p =
    ⊎_elim (λ e. inl e) (λ n. inr (in_from_count t us (omega (arith, p, tally_other t u n)))) (tree_cases u t)

-- how many terms of a list pass a test
abbrev how_many : (Tree → Bool) → List Tree → ℕ
how_many p [] = 0
how_many p (x ∷ xs) = one_if (p x) + how_many p xs

one_each : (a b : Bool) → (a ≡ true → b ≡ true) → one_if a ≤ one_if b
one_each true b h = omega (arith, ap one_if (h refl))
one_each false b h = omega arith

no_more : (p q : Tree → Bool) (xs : List Tree) → ((z : Tree) → In xs z → p z ≡ true → q z ≡ true)
    → how_many p xs ≤ how_many q xs
no_more p q [] h = omega arith
no_more p q (x ∷ xs) h = omega (arith, one_each (p x) (q x) (h x (inl refl)), no_more p q xs (λ z i. h z (inr i)))

-- fewer terms pass a test that is as hard for all and harder for one
fewer : (p q : Tree → Bool) (xs : List Tree) (x : Tree) → ((z : Tree) → In xs z → p z ≡ true → q z ≡ true) → In xs x
    → p x ≡ false → q x ≡ true
    → how_many p xs < how_many q xs
fewer p q [] x h i a b = absurd i
fewer p q (y ∷ ys) x h (inl e) a b =
    omega (
      arith,
      ap one_if (ap p e ∙ a),
      ap one_if (ap q e ∙ b),
      no_more p q ys (λ z i. h z (inr i)),
    )
fewer p q (y ∷ ys) x h (inr i) a b =
    omega (arith, one_each (p y) (q y) (h y (inl refl)), fewer p q ys x (λ z j. h z (inr j)) i a b)

-- a step of a climb: a term of the list above another one; the climb ends there if the term is good, and goes on from
-- it if it is open and what is above it is above the other one
abbrev Climbs : (Tree → Tree → Bool) → List Tree → (Tree → Type 0) → (Tree → Type 0) → Tree → Type 0
Climbs R xs Good Open y =
    (x : Tree) × In xs x × (R x y ≡ true) × (Good x ⊎ (Open x × ((z : Tree) → In xs z → R z x ≡ true → R z y ≡ true)))

-- a climb within a list ends: by induction on how many terms of the list are above the present one
climb : (R : Tree → Tree → Bool) (xs : List Tree) (Good Open : Tree → Type 0) → ((x : Tree) → In xs x → R x x ≡ false)
    → ((y : Tree) → Open y → Climbs R xs Good Open y)
    → (n : ℕ) (y : Tree) → Open y → how_many (λ z. R z y) xs < n → (x : Tree) × In xs x × Good x × (R x y ≡ true)
climb R xs Good Open irr step zero y o lt = absurd (omega (arith, lt))
climb R xs Good Open irr step (suc n) y o lt =
    let s = step y o in
    ⊎_elim (λ g. (s.0, s.1, g, s.2))
    (λ w. let r =
    climb R xs Good Open irr step n s.0 w.0
    (omega (arith, lt, fewer (λ z. R z s.0) (λ z. R z y) xs s.0 w.1 s.1 (irr s.0 s.1) s.2)) in
    (r.0, r.1, r.2, w.1 r.0 r.1 r.3))
    s.3

-- from an open term one comes to a good one above it
climbed : (R : Tree → Tree → Bool) (xs : List Tree) (Good Open : Tree → Type 0) → ((x : Tree) → In xs x → R x x ≡ false)
    → ((y : Tree) → Open y → Climbs R xs Good Open y)
    → (y : Tree) → Open y → (x : Tree) × In xs x × Good x × (R x y ≡ true)
climbed R xs Good Open irr step y o = climb R xs Good Open irr step (suc (how_many (λ z. R z y) xs)) y o (omega arith)

-- a term remains of a first list beside a second
abbrev pub Remains : List Tree → List Tree → Tree → Type 0
Remains us ts x = count x ts < count x us

-- some term that remains is above another one
abbrev pub Beaten : (Tree → Tree → Bool) → List Tree → List Tree → Tree → Type 0
Beaten R us ts t = (x : Tree) × Remains us ts x × (R x t ≡ true)

-- a first list is above a second as a multiset
abbrev pub MultisetAbove : (Tree → Tree → Bool) → List Tree → List Tree → Type 0
MultisetAbove R us ts = ((x : Tree) × Remains us ts x) × ((t : Tree) → Remains ts us t → Beaten R us ts t)

pub remains_in : (us ts : List Tree) (x : Tree) → Remains us ts x → In us x
remains_in us ts x lt = in_from_count x us (omega (arith, lt))

module _ (R : Tree → Tree → Bool) (ms ns ps : List Tree)
    (irr : (x : Tree) → In ms x → R x x ≡ false)
    (down : (x y z : Tree) → In ms x → In ns y → In ps z → R x y ≡ true → R y z ≡ true → R x z ≡ true)
    (across : (x y z : Tree) → In ms x → In ps y → In ns z → R x y ≡ true → R y z ≡ true → R x z ≡ true) where
  -- a term occurs more often in the third list than in the first, or at least as often and more often than in the
  -- second
  abbrev Wanted : Tree → Type 0
  Wanted y = (count y ms < count y ps) ⊎ ((count y ms ≤ count y ps) × (count y ns < count y ps))

  wanted_in : (y : Tree) → Wanted y → In ps y
  wanted_in y (inl lt) = in_from_count y ps (omega (arith, lt))
  wanted_in y (inr h) = in_from_count y ps (omega (arith, h.1))

  -- from a term that remains of the last list beside the middle one
  from_middle : MultisetAbove R ms ns → MultisetAbove R ns ps → (y : Tree) → In ps y → count y ns < count y ps
      → Climbs R ms (Remains ms ps) Wanted y
  from_middle f g y i lt =
      let b = g.1 y lt in
      let x : Tree = b.0 in
      let xn : In ns x = remains_in ns ps x b.1 in
      ⊎_elim (λ good. (x, remains_in ms ps x good, b.2, inl good))
      (λ le.
      let a = f.1 x (omega (arith, le, b.1)) in
      let w : Tree = a.0 in
      let wm : In ms w = remains_in ms ns w a.1 in
      ⊎_elim (λ good. (w, wm, down w x y wm xn i a.2 b.2, inl good))
      (λ ge. (
        w,
        wm,
        down w x y wm xn i a.2 b.2,
        inr (
          inr (ge, omega (arith, ge, a.1)),
          λ z zm r. down z x y zm xn i (across z w x zm (in_from_count w ps (omega (arith, ge, a.1))) xn r a.2) b.2,
        ),
      ))
      (cases_lt (count w ps) (count w ms)))
      (cases_lt (count x ps) (count x ms))

  -- from one that doesn't
  from_first : MultisetAbove R ms ns → (y : Tree) → count y ms < count y ps → count y ps ≤ count y ns
      → Climbs R ms (Remains ms ps) Wanted y
  from_first f y lt le =
      let a = f.1 y (omega (arith, lt, le)) in
      let w : Tree = a.0 in
      let wm : In ms w = remains_in ms ns w a.1 in
      ⊎_elim (λ good. (w, wm, a.2, inl good))
      (λ ge. (
        w,
        wm,
        a.2,
        inr (
          inr (ge, omega (arith, ge, a.1)),
          λ z zm r. across z w y zm (in_from_count w ps (omega (arith, ge, a.1)))
              (in_from_count y ns (omega (arith, lt, le))) r a.2,
        ),
      ))
      (cases_lt (count w ps) (count w ms))

  step : MultisetAbove R ms ns → MultisetAbove R ns ps → (y : Tree) → Wanted y → Climbs R ms (Remains ms ps) Wanted y
  step f g y (inr h) = from_middle f g y (wanted_in y (inr h)) h.1
  step f g y (inl lt) =
      ⊎_elim (λ low. from_middle f g y (wanted_in y (inl lt)) low) (λ high. from_first f y lt high)
      (cases_lt (count y ns) (count y ps))

  reached : MultisetAbove R ms ns → MultisetAbove R ns ps → (y : Tree) → Wanted y → Beaten R ms ps y
  reached f g y o = let r = climbed R ms (Remains ms ps) Wanted irr (step f g) y o in (r.0, r.2, r.3)

  -- above a list that is above a third is above the third
  pub multiset_transitive : MultisetAbove R ms ns → MultisetAbove R ns ps → MultisetAbove R ms ps
  multiset_transitive f g = (
    ⊎_elim (λ good. (f.0.0, good)) (λ ge. let r = reached f g f.0.0 (inr (ge, omega (arith, ge, f.0.1))) in (r.0, r.1))
        (cases_lt (count f.0.0 ps) (count f.0.0 ms)),
    λ y lt. reached f g y (inl lt),
  )

-- one term in the stead of a lower one makes a list that is above
pub multiset_replaced : (R : Tree → Tree → Bool) (ms ns : List Tree) (x y : Tree) → (x ≡ y → ⊥) → R x y ≡ true
    → ((t : Tree) → count t ms + tally t y ≡ count t ns + tally t x)
    → MultisetAbove R ms ns
multiset_replaced R ms ns x y apart above same = (
  (x, omega (arith, same x, tally_same x x refl, tally_other x y (λ e. apart (sym e)))),
  λ t lt. (
    x,
    omega (arith, same x, tally_same x x refl, tally_other x y (λ e. apart (sym e))),
    let e : y ≡ t = tally_is t y (omega (arith, same t, lt)) in subst (λ z. R x z ≡ true) e above,
  ),
)

-- the list without the first occurrence of a term
abbrev without : Tree → List Tree → List Tree
without t [] = []
without t (u ∷ us) = cond (same_tree u t) us (u ∷ without t us)

total_without : (g : Tree → ℕ) (t : Tree) (us : List Tree) → In us t → total g us ≡ g t + total g (without t us)
total_without g t [] i = absurd i
total_without g t (u ∷ us) i =
    ⊎_elim
    (λ e.
    let a : without t (u ∷ us) ≡ us = cond-true (same_tree u t) us (u ∷ without t us) ((tree_Decides u t).1 e) in
    omega (arith, ap g e, ap (total g) a))
    (λ n.
    let a : without t (u ∷ us) ≡ u
    ∷ without t us =
    cond-false (same_tree u t) us (u ∷ without t us)
    (false_from_ne_true (same_tree u t) (λ e. n ((tree_Decides u t).0 e))) in
    let j : In us t = ⊎_elim (λ e. absurd (n e)) (λ j. j) i in
    omega (arith, ap (total g) a, total_without g t us j))
    (tree_cases u t)

-- where a sum over a second list is greater, some term that adds to it occurs there more often
surplus : (g : Tree → ℕ) (ms ns : List Tree) → total g ms < total g ns → (t : Tree) × Remains ns ms t × (0 < g t)
surplus g ms [] lt = absurd (omega (arith, lt))
surplus g ms (n ∷ ns) lt =
    ⊎_elim
    (λ some.
    let i : In ms n = in_from_count n ms some in
    let r = surplus g (without n ms) ns (omega (arith, lt, total_without g n ms i)) in
    (r.0, omega (arith, r.1, total_without (tally r.0) n ms i), r.2))
    (λ no.
    ⊎_elim (λ p. (n, omega (arith, no, tally_same n n refl), p))
    (λ z. let r = surplus g ms ns (omega (arith, lt, z)) in (r.0, omega (arith, r.1), r.2))
    (cases_lt 0 (g n)))
    (cases_lt 0 (count n ms))

count_mapped : (h : Tree → Tree) (t : Tree) (us : List Tree) → count t (map h us) ≡ total (λ u. tally t (h u)) us
count_mapped h t [] = refl
count_mapped h t (u ∷ us) = ap (λ n. tally t (h u) + n) (count_mapped h t us)

pub in_mapped : (h : Tree → Tree) (t : Tree) (us : List Tree) → In us t → In (map h us) (h t)
in_mapped h t [] i = absurd i
in_mapped h t (u ∷ us) (inl e) = inl (ap h e)
in_mapped h t (u ∷ us) (inr i) = inr (in_mapped h t us i)

-- what the others add to a sum
abbrev others : (Tree → ℕ) → Tree → Tree → ℕ
others g x u = cond (same_tree u x) 0 (g u)

others_split : (g : Tree → ℕ) (x : Tree) (us : List Tree) → g x ≡ 1 → total g us ≡ count x us + total (others g x) us
others_split g x [] e = omega arith
others_split g x (u ∷ us) e =
    ⊎_elim
    (λ p.
    omega (
      arith,
      others_split g x us e,
      tally_same x u p,
      ap g p,
      e,
      cond-true (same_tree u x) 0 (g u) ((tree_Decides u x).1 p),
    ))
    (λ n.
    omega (
      arith,
      others_split g x us e,
      tally_other x u n,
      cond-false (same_tree u x) 0 (g u) (false_from_ne_true (same_tree u x) (λ p. n ((tree_Decides u x).0 p))),
    ))
    (tree_cases u x)

others_below : (g : Tree → ℕ) (x u : Tree) → 0 < others g x u → 0 < g u
others_below g x u lt =
    ⊎_elim (λ e. absurd (omega (arith, lt, cond-true (same_tree u x) 0 (g u) e)))
    (λ e. omega (arith, lt, cond-false (same_tree u x) 0 (g u) e)) (cases_Bool (same_tree u x))

module _ (R : Tree → Tree → Bool) (h : Tree → Tree) (ms ns : List Tree)
    (irr : (x : Tree) → R x x ≡ false)
    (transitive : (x y z : Tree) → R x y ≡ true → R y z ≡ true → R x z ≡ true)
    (keeps : (x y : Tree) → In ms x → In ns y → R x y ≡ true → R (h x) (h y) ≡ true) where
  -- the image of a term that remains of the second list
  abbrev Image : Tree → Type 0
  Image z = (t : Tree) × Remains ns ms t × (h t ≡ z)

  from_surplus : (z : Tree) → Remains (map h ns) (map h ms) z → Image z
  from_surplus z lt =
      let r = surplus (λ u. tally z (h u)) ms ns (omega (arith, lt, count_mapped h z ms, count_mapped h z ns)) in
      (r.0, r.1, tally_is z (h r.0) r.2)

  -- a term that remains of the first list has an image that remains, or that is one of a term that remains of the
  -- second
  image_of : (x : Tree) → Remains ms ns x → Remains (map h ms) (map h ns) (h x) ⊎ Image (h x)
  image_of x lt =
      let g : Tree → ℕ = λ u. tally (h x) (h u) in
      let one : g x ≡ 1 = tally_same (h x) (h x) refl in
      ⊎_elim (λ good. inl good)
      (λ le.
      let r = surplus (others g x) ms ns
      (omega (
        arith,
        lt,
        le,
        count_mapped h (h x) ms,
        count_mapped h (h x) ns,
        others_split g x ms one,
        others_split g x ns one,
      )) in
      inr (r.0, r.1, tally_is (h x) (h r.0) (others_below g x r.0 r.2)))
      (cases_lt (count (h x) (map h ns)) (count (h x) (map h ms)))

  image_step : MultisetAbove R ms ns → (z : Tree) → Image z
      → Climbs R (map h ms) (Remains (map h ms) (map h ns)) Image z
  image_step f z o =
      let b = f.1 o.0 o.1 in
      let i : In ms b.0 = remains_in ms ns b.0 b.1 in
      let r : R (h b.0) z ≡ true =
      subst (λ y. R (h b.0) y ≡ true) o.2 (keeps b.0 o.0 i (remains_in ns ms o.0 o.1) b.2) in (
        h b.0,
        in_mapped h b.0 ms i,
        r,
        ⊎_elim (λ good. inl good) (λ w. inr (w, λ y j s. transitive y (h b.0) z s r)) (image_of b.0 b.1),
      )

  image_reached : MultisetAbove R ms ns → (z : Tree) → Image z → Beaten R (map h ms) (map h ns) z
  image_reached f z o = let r =
      climbed R (map h ms) (Remains (map h ms) (map h ns)) Image (λ x i. irr x) (image_step f) z o in (r.0, r.2, r.3)

  -- a map that keeps the relation keeps it on lists
  pub multiset_mapped : MultisetAbove R ms ns → MultisetAbove R (map h ms) (map h ns)
  multiset_mapped f = (
    ⊎_elim (λ good. (h f.0.0, good)) (λ o. let r = image_reached f (h f.0.0) o in (r.0, r.1)) (image_of f.0.0 f.0.1),
    λ z lt. image_reached f z (from_surplus z lt),
  )
