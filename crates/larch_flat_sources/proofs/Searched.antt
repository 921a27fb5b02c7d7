-- A search against the references finds exactly what leads to its number.
use Rattle.std.proofs.Common.{◌≡◌, refl, ℕ, suc, ◌+◌, ◌≤◌, ◌<◌, ◌⊎◌, Bool, true, false, length, get_or, set, replicate}
use Rattle.std.proofs.Common.{ap, sym, subst, ◌∙◌, arith, inl, inr}
use Rattle.std.proofs.Common.{Some, List, [], ◌∷◌, ◌++◌, Contains, length-append}
use Rattle.std.specs.Bool.{Decides}
use Rattle.std.specs.List.{slice_get}
use Rattle.std.proofs.lemmas.Bool.{cases_order}
use Rattle.std.proofs.lemmas.List.{get_or_append_left, get_or_default, get_or-set_same, length-replicate, length-set}
use Rattle.std.proofs.lemmas.List.Elements.{Contains-get_or}
use Rattle.std.proofs.lemmas.Option.{get_or_from_slice_get, slice_get-get_or, slice_get_within}
use Rattle.larch_base.proofs.Members.{contains_either, contains_got, contains_here, contains_left, contains_one}
use Rattle.larch_base.proofs.Members.{contains_right, got_contains}
use Rattle.larch_flat_sources.specs.Links.{AreWithin, Leads, arrived, is_marked, one_more, referring}
use Rattle.larch_flat_sources.specs.Search.{Searching, marked_count}
use Rattle.larch_flat_sources.proofs.Numbers.{count_marked, count_within, false_true, got_before, got_still}
use Rattle.larch_flat_sources.proofs.Numbers.{marked_before, marked_stays, none_marked, some_same}

-- one more number is found, which refers to the next one
pub one_found : (links : List (List ℕ)) (marks : List Bool) (found : List ℕ) (next b a : ℕ)
    → Searching links marks found next → next < length found
    → slice_get found next ≡ Some b → Contains (referring links b) a → a < length links → is_marked marks a ≡ false
    → Searching links (set marks a true) (found ++ a ∷ []) next
one_found links marks found next b a s lt e c w q =
    let room : a < length marks = subst (λ n. a < n) (sym s.size) w in
    let start : 0 < length found = omega (arith, lt) in
    let same : get_or (found ++ a ∷ []) 0 0 ≡ get_or found 0 0 = get_or_append_left found (a ∷ []) 0 0 start in
    let leads : Leads links a (get_or found 0 0) = one_more c (s.led b (got_contains found next b e)) in
    let counted = s.counted in
    record {
      size = length-set marks a true ∙ s.size;
      counted =
          subst (λ n. length (found ++ a ∷ []) ≤ n) (sym (count_marked marks a room q))
          (subst (λ n. n ≤ suc (marked_count marks)) (sym (length-append found (a ∷ []))) (omega (arith, counted)));
      within =
          λ m d. elim (contains_either found (a ∷ []) m d)
          [ inl x ↦ s.within m x | inr y ↦ subst (λ n. n < length links) (contains_one a m y) w ];
      led =
          λ m d. subst (λ k. Leads links m k) (sym same)
          (elim (contains_either found (a ∷ []) m d)
          [ inl x ↦ s.led m x | inr y ↦ subst (λ n. Leads links n (get_or found 0 0)) (contains_one a m y) leads ]);
      listed =
          λ m h. elim (marked_before marks a m h) [
            | inl x ↦ subst (Contains (found ++ a ∷ [])) (sym x) (contains_right found (a ∷ []) a (contains_here a []))
            | inr y ↦ contains_left found (a ∷ []) m (s.listed m y)
          ];
      first =
          subst (λ k. is_marked (set marks a true) k ≡ true) (sym same)
          (marked_stays marks a (get_or found 0 0) room s.first);
      closed =
          λ i d x l g h. marked_stays marks a x room
          (s.closed i d x l (got_before found a i d (omega (arith, l, lt)) g) h);
    }

-- what refers to the next one is marked
pub one_closed : (links : List (List ℕ)) (marks : List Bool) (found : List ℕ) (next b : ℕ)
    → Searching links marks found next → slice_get found next ≡ Some b
    → ((a : ℕ) → Contains (referring links b) a → is_marked marks a ≡ true) → Searching links marks found (suc next)
one_closed links marks found next b s e h =
    record {
      size = s.size;
      counted = s.counted;
      within = s.within;
      led = s.led;
      listed = s.listed;
      first = s.first;
      closed = λ i d a l g c.
          elim (cases_order i next) [
            | inl q ↦
                h a (subst (λ n. Contains (referring links n) a)
                (some_same (sym (subst (λ k. slice_get found k ≡ Some d) q g) ∙ e)) c)
            | inr r ↦ elim r [ inl x ↦ s.closed i d a x g c | inr y ↦ absurd (omega (arith, l, y)) ]
          ];
    }

-- the first number is found
pub begun : (links : List (List ℕ)) (number : ℕ) → number < length links
    → Searching links (set (replicate (length links) false) number true) (number ∷ []) 0
begun links number lt =
    let n : ℕ = length links in
    let none : List Bool = replicate n false in
    let room : number < length none = subst (λ k. number < k) (sym (length-replicate n false)) lt in
    let marked : is_marked (set none number true) number ≡ true = get_or-set_same none number true false room in
    record {
      size = length-set none number true ∙ length-replicate n false;
      counted = subst (λ k. 1 ≤ k) (sym (count_marked none number room (none_marked n number))) (omega arith);
      within = λ m c. subst (λ k. k < length links) (contains_one number m c) lt;
      led = λ m c. subst (λ k. Leads links k number) (contains_one number m c) arrived;
      listed =
          λ m h. elim (marked_before none number m h) [
            | inl x ↦ subst (Contains (number ∷ [])) (sym x) (contains_here number [])
            | inr y ↦ absurd (false_true (sym (none_marked n m) ∙ y))
          ];
      first = marked;
      closed = λ i d a l g c. absurd (omega (arith, l));
    }

-- no more is found than there are numbers
pub found_within : (links : List (List ℕ)) (marks : List Bool) (found : List ℕ) (next : ℕ)
    → Searching links marks found next → length found ≤ length links
found_within links marks found next s =
    let most = count_within marks in let counted = s.counted in let size = s.size in omega (arith, most, counted, size)

-- where all that is found was looked at, exactly what leads to the first is marked
module _ (links : List (List ℕ)) (marks : List Bool) (found : List ℕ) (next : ℕ) (s : Searching links marks found next)
    (done : length found ≤ next) where
  all_closed : (b a : ℕ) → is_marked marks b ≡ true → Contains (referring links b) a → is_marked marks a ≡ true
  all_closed b a h c =
      let g = contains_got found b (s.listed b h) in
      let lt = slice_get_within found g.0 b g.1 in
      s.closed g.0 b a (omega (arith, lt, done)) g.1 c

  leading_marked : (a c : ℕ) → Leads links a c → is_marked marks c ≡ true → is_marked marks a ≡ true
  leading_marked a c arrived h = h
  leading_marked a c (one_more {b = b} d l) h = all_closed b a (leading_marked b c l h) d

  pub searched : (m : ℕ) → Decides (is_marked marks m) (Leads links m (get_or found 0 0))
  searched m = ((λ h. s.led m (s.listed m h)), (λ l. leading_marked m (get_or found 0 0) l s.first))

-- the next number is one of those that there are
pub next_within : (links : List (List ℕ)) (marks : List Bool) (found : List ℕ) (next b : ℕ)
    → Searching links marks found next → next < length found
    → b ≡ get_or found next b → (b < length links) × (slice_get found next ≡ Some b)
next_within links marks found next b s lt e =
    let g : slice_get found next ≡ Some b = slice_get-get_or found next b lt ∙ ap Some (sym e) in
    (s.within b (got_contains found next b g), g)

-- the search while what refers to the next number is looked at
pub record Visiting (links : List (List ℕ)) (marks : List Bool) (found : List ℕ) (next of first : ℕ) (index : ℕ)
    : Type 0 where
  pub searching : Searching links marks found next
  pub next_is : slice_get found next ≡ Some of
  pub first_is : get_or found 0 0 ≡ first
  pub marked : (k : ℕ) → k < index → is_marked marks (get_or (referring links of) k 0) ≡ true

below_or_last : (k index : ℕ) → k < index + 1 → (k < index) ⊎ (k ≡ index)
below_or_last k index l =
    elim (cases_order k index) [
      | inl q ↦ inr q
      | inr r ↦ elim r [ inl x ↦ inl x | inr y ↦ absurd (omega (arith, l, y)) ]
    ]

-- one that is marked already
pub visit_kept : (links : List (List ℕ)) (marks : List Bool) (found : List ℕ) (next of first index : ℕ)
    → Visiting links marks found next of first index
    → is_marked marks (get_or (referring links of) index 0) ≡ true
    → Visiting links marks found next of first (index + 1)
visit_kept links marks found next of first index v e =
    record {
      searching = v.searching;
      next_is = v.next_is;
      first_is = v.first_is;
      marked =
          λ k l. elim (below_or_last k index l) [
            | inl x ↦ v.marked k x
            | inr y ↦
                subst (λ j. is_marked marks (get_or (referring links of) j 0) ≡ true) (sym y) e
          ];
    }

-- one that is marked now
pub visit_found : (links : List (List ℕ)) (marks : List Bool) (found : List ℕ) (next of first index : ℕ)
    → AreWithin links
    → Visiting links marks found next of first index → index < length (referring links of)
    → is_marked marks (get_or (referring links of) index 0) ≡ false
    → Visiting links (set marks (get_or (referring links of) index 0) true)
    (found ++ get_or (referring links of) index 0 ∷ []) next of first (index + 1)
visit_found links marks found next of first index w v lt e =
    let a : ℕ = get_or (referring links of) index 0 in
    let c : Contains (referring links of) a = Contains-get_or (referring links of) index 0 lt in
    let within : a < length links = w of a c in
    let room : a < length marks = subst (λ n. a < n) (sym v.searching.size) within in
    let before : next < length found = slice_get_within found next of v.next_is in
    record {
      searching = one_found links marks found next of a v.searching before v.next_is c within e;
      next_is = got_still found a next of v.next_is;
      first_is = get_or_append_left found (a ∷ []) 0 0 (omega (arith, before)) ∙ v.first_is;
      marked = λ k l. elim (below_or_last k index l) [
        | inl x ↦ marked_stays marks a (get_or (referring links of) k 0) room (v.marked k x)
        | inr y ↦
            subst (λ j. is_marked (set marks a true) (get_or (referring links of) j 0) ≡ true) (sym y)
            (get_or-set_same marks a true false room)
      ];
    }

-- a number that stands in a list stands at an index
at_index : (xs : List ℕ) (a : ℕ) → Contains xs a → (i : ℕ) × (i < length xs) × (get_or xs i 0 ≡ a)
at_index xs a c = let g = contains_got xs a c in
    (g.0, slice_get_within xs g.0 a g.1, get_or_from_slice_get xs g.0 a 0 g.1)

-- all are looked at
pub visited : (links : List (List ℕ)) (marks : List Bool) (found : List ℕ) (next of first index : ℕ)
    → Visiting links marks found next of first index
    → length (referring links of) ≤ index → Searching links marks found (suc next)
visited links marks found next of first index v l =
    one_closed links marks found next of v.searching v.next_is (λ a c.
    let i = at_index (referring links of) a c in let lt = i.1 in
    subst (λ n. is_marked marks n ≡ true) i.2 (v.marked i.0 (omega (arith, lt, l))))

-- what is looked at is a number that there is
pub visit_within : (links : List (List ℕ)) (marks : List Bool) (found : List ℕ) (next of first index : ℕ)
    (numbers : List ℕ) → AreWithin links
    → Visiting links marks found next of first index → numbers ≡ referring links of → index < length numbers
    → get_or numbers index 0 < length marks
visit_within links marks found next of first index numbers w v q lt =
    let c : Contains (referring links of) (get_or numbers index 0) =
    subst (λ ns. Contains ns (get_or numbers index 0)) q (Contains-get_or numbers index 0 lt) in
    subst (λ n. get_or numbers index 0 < n) (sym v.searching.size) (w of (get_or numbers index 0) c)

marks_same : (marks : List Bool) (a : ℕ) (b : Bool) → a < length marks → b ≡ get_or marks a b → is_marked marks a ≡ b
marks_same marks a b lt e = sym (e ∙ get_or_default marks a b false lt)

-- it is marked already
pub visit_marked : (links : List (List ℕ)) (marks : List Bool) (found : List ℕ) (next of first index : ℕ)
    (numbers : List ℕ) → AreWithin links
    → Visiting links marks found next of first index → numbers ≡ referring links of → index < length numbers
    → (b : Bool) → b ≡ get_or marks (get_or numbers index 0) b → b ≡ true
    → (marks_now : List Bool) (found_now : List ℕ) → marks_now ≡ marks → found_now ≡ found
    → Visiting links marks_now found_now next of first (index + 1)
visit_marked links marks found next of first index numbers w v q lt b e t marks_now found_now m f =
    let room = visit_within links marks found next of first index numbers w v q lt in
    let is : is_marked marks (get_or (referring links of) index 0) ≡ true =
    subst (λ ns. is_marked marks (get_or ns index 0) ≡ true) q
    (marks_same marks (get_or numbers index 0) b room e ∙ t) in
    subst (λ bs. Visiting links bs found_now next of first (index + 1)) (sym m)
    (subst (λ ns. Visiting links marks ns next of first (index + 1)) (sym f)
    (visit_kept links marks found next of first index v is))

-- it is marked now
pub visit_new : (links : List (List ℕ)) (marks : List Bool) (found : List ℕ) (next of first index : ℕ)
    (numbers : List ℕ) → AreWithin links
    → Visiting links marks found next of first index → numbers ≡ referring links of → index < length numbers
    → (b : Bool) → b ≡ get_or marks (get_or numbers index 0) b → b ≡ false
    → (marks_now : List Bool) (found_now : List ℕ) → marks_now ≡ set marks (get_or numbers index 0) true
    → found_now ≡ found ++ get_or numbers index 0 ∷ []
    → Visiting links marks_now found_now next of first (index + 1)
visit_new links marks found next of first index numbers w v q lt b e t marks_now found_now m f =
    let room = visit_within links marks found next of first index numbers w v q lt in
    let is : is_marked marks (get_or (referring links of) index 0) ≡ false =
    subst (λ ns. is_marked marks (get_or ns index 0) ≡ false) q
    (marks_same marks (get_or numbers index 0) b room e ∙ t) in
    subst (λ bs. Visiting links bs found_now next of first (index + 1))
    (sym (m ∙ ap (λ ns. set marks (get_or ns index 0) true) q))
    (subst (λ ns. Visiting links (set marks (get_or (referring links of) index 0) true) ns next of first (index + 1))
    (sym (f ∙ ap (λ ns. found ++ get_or ns index 0 ∷ []) q))
    (visit_found links marks found next of first index w v (subst (λ ns. index < length ns) q lt) is))

-- nothing is looked at yet
pub visit_begun : (links : List (List ℕ)) (marks : List Bool) (found : List ℕ) (next : ℕ)
    → Searching links marks found next → next < length found
    → Visiting links marks found next (get_or found next 0) (get_or found 0 0) 0
visit_begun links marks found next s lt =
    record {
      searching = s;
      next_is = slice_get-get_or found next 0 lt;
      first_is = refl;
      marked = λ k l. absurd (omega (arith, l));
    }
