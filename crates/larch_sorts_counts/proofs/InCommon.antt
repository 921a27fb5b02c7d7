-- What two lists of counts have in common, of which parts are held.
use Rattle.std.proofs.Common.{◌≡◌, ℕ, ◌+◌, ◌<◌, ◌≤◌, zero, suc, ◌⊎◌, inl, inr, List, drop, length, take, refl, sym, ◌∙◌}
use Rattle.std.proofs.Common.{ap, ap₂, arith, max, min, ◌-◌}
use Rattle.std.proofs.lemmas.Bool.{cases_lt}
use Rattle.std.proofs.lemmas.List.{get_or-drop, get_or-take, length-drop, length-take}
use Rattle.larch_sorts_counts.specs.Count.{count_at, plus, sum_to, times, together}
use Rattle.larch_sorts_counts.specs.Spread.{spread}
use Rattle.larch_sorts_counts.specs.declared.count.Count.{Count}
use Rattle.larch_sorts_counts.specs.declared.count.Count.TheVariants.{Never}
use Rattle.larch_sorts_counts.proofs.Counting.{plus_never, plus_plus, times_never}
use Rattle.larch_sorts_counts.proofs.Spreading.{spread_before, spread_behind, spread_held, sum_further, sum_none}

-- a sum in two parts
pub sum_in_parts : (f : ℕ → Count) (m n : ℕ) → sum_to f (m + n) ≡ plus (sum_to f m) (sum_to (λ k. f (m + k)) n)
sum_in_parts f m zero = let e : m + 0 ≡ m = omega arith in ap (sum_to f) e ∙ sym (plus_never (sum_to f m))
sum_in_parts f m (suc n) =
    let e : m + suc n ≡ suc (m + n) = omega arith in
    ap (sum_to f) e
    ∙ ap (λ c. plus c (f (m + n))) (sum_in_parts f m n)
    ∙ plus_plus (sum_to f m) (sum_to (λ k. f (m + k)) n) (f (m + n))

pub sum_same : (f g : ℕ → Count) (n : ℕ) → ((k : ℕ) → k < n → f k ≡ g k) → sum_to f n ≡ sum_to g n
sum_same f g zero h = refl
sum_same f g (suc n) h = ap₂ plus (sum_same f g n (λ k l. h k (omega (arith, l)))) (h n (omega arith))

-- the sum of what stands between two numbers is all where nothing stands elsewhere
pub sum_between : (f g : ℕ → Count) (first n size : ℕ) → first + n ≤ size → ((k : ℕ) → k < first → f k ≡ Never)
    → ((k : ℕ) → first + n ≤ k → k < size → f k ≡ Never) → ((k : ℕ) → k < n → g k ≡ f (first + k))
    → sum_to g n ≡ sum_to f size
sum_between f g first n size l before behind same =
    sum_same g (λ k. f (first + k)) n same
    ∙ ap (λ c. plus c (sum_to (λ k. f (first + k)) n)) (sym (sum_none f first before))
    ∙ sym (sum_in_parts f first n)
    ∙ sum_further f (first + n) size l behind

-- the counts of a part of a list
pub count_in_part : (cs : List Count) (a n k : ℕ) → k < n → count_at (take n (drop a cs)) k ≡ count_at cs (a + k)
count_in_part cs a n k l = get_or-take n (drop a cs) k Never l ∙ get_or-drop a cs k Never

-- two lists of counts of which parts are held
module _ (n m : ℕ) (f g : ℕ) (cs ds : List Count) where
  -- nothing is common before or behind what either holds
  pub common_outside : (k : ℕ) → (k < f) ⊎ ((f + length cs ≤ k) ⊎ ((k < g) ⊎ (g + length ds ≤ k)))
      → together (spread n f cs) (spread m g ds) k ≡ Never
  common_outside k (inl l) = ap (λ c. times c (count_at (spread m g ds) k)) (spread_before n f cs k l)
  common_outside k (inr (inl l)) = ap (λ c. times c (count_at (spread m g ds) k)) (spread_behind n f cs k l)
  common_outside k (inr (inr (inl l))) =
      ap (times (count_at (spread n f cs) k)) (spread_before m g ds k l) ∙ times_never (count_at (spread n f cs) k)
  common_outside k (inr (inr (inr l))) =
      ap (times (count_at (spread n f cs) k)) (spread_behind m g ds k l) ∙ times_never (count_at (spread n f cs) k)

  -- within, it is what both hold
  pub common_within : f + length cs ≤ n → g + length ds ≤ m → (i j k first : ℕ) → first + k ≡ f + (i + k)
      → first + k ≡ g + (j + k) → together (spread n f cs) (spread m g ds) (first + k)
      ≡ times (count_at cs (i + k)) (count_at ds (j + k))
  common_within a b i j k first e d =
      ap₂ times (spread_held n f cs (first + k) (i + k) e a) (spread_held m g ds (first + k) (j + k) d b)

  -- so nothing is common before the last of both first numbers, or behind the first of both ends and a size
  pub none_before : (k : ℕ) → k < max f g → together (spread n f cs) (spread m g ds) k ≡ Never
  none_before k l = common_outside k (elim (cases_lt k f) [
    | inl a ↦ inl a
    | inr a ↦ inr (inr (inl (omega (arith, l, a))))
  ])

  pub none_behind : (size k : ℕ) → min size (min (f + length cs) (g + length ds)) ≤ k → k < size
      → together (spread n f cs) (spread m g ds) k ≡ Never
  none_behind size k l s = common_outside k (elim (cases_lt k (f + length cs)) [
    | inl a ↦ inr (inr (inr (omega (arith, l, s, a))))
    | inr a ↦ inr (inl a)
  ])

  pub none_in_common : (size : ℕ) → min size (min (f + length cs) (g + length ds)) ≤ max f g
      → Never ≡ sum_to (together (spread n f cs) (spread m g ds)) size
  none_in_common size l = sym (sum_none (together (spread n f cs) (spread m g ds)) size (λ k s.
      elim (cases_lt k (max f g)) [ inl a ↦ none_before k a | inr a ↦ none_behind size k (omega (arith, l, a)) s ]))

  -- what is common stands in the parts that both hold
  pub all_in_common : f + length cs ≤ n → g + length ds ≤ m → (size first end : ℕ) → first ≡ max f g
      → end ≡ min size (min (f + length cs) (g + length ds)) → first < end
      → sum_to (together (take (end - first) (drop (first - f) cs)) (take (end - first) (drop (first - g) ds)))
      (end - first)
      ≡ sum_to (together (spread n f cs) (spread m g ds)) size
  all_in_common a b size first end p q l =
      sum_between (together (spread n f cs) (spread m g ds))
      (together (take (end - first) (drop (first - f) cs)) (take (end - first) (drop (first - g) ds)))
      first (end - first) size (omega (arith, p, q, l))
      (λ k s. none_before k (omega (arith, p, s)))
      (λ k s t. none_behind size k (omega (arith, q, s, l)) t)
      (λ k s.
      ap₂ times (count_in_part cs (first - f) (end - first) k s) (count_in_part ds (first - g) (end - first) k s)
      ∙ sym (common_within a b (first - f) (first - g) k first (omega (arith, p)) (omega (arith, p))))

-- the length of a part of a list
pub part_length : (cs : List Count) (a n : ℕ) → a + n ≤ length cs → length (take n (drop a cs)) ≡ n
part_length cs a n l =
    let e = length-take n (drop a cs) in let d = length-drop a cs in omega (arith, l, e, d)

-- what is paired up to the end of a block
pub further_block : (cs ds : List Count) (place end : ℕ) (so_far here both : Count) → place ≤ end → end ≤ length cs
    → so_far ≡ sum_to (together cs ds) place
    → here ≡ sum_to (together (take (end - place) (drop place cs)) (take (end - place) (drop place ds)))
    (length (take (end - place) (drop place cs)))
    → both ≡ plus so_far here → sum_to (together cs ds) end ≡ both
further_block cs ds place end so_far here both l m e d p =
    let whole : end ≡ place + (end - place) = omega (arith, l) in
    ap (sum_to (together cs ds)) whole
    ∙ sum_in_parts (together cs ds) place (end - place)
    ∙ ap₂ plus (sym e)
    (sum_same (λ k. together cs ds (place + k))
    (together (take (end - place) (drop place cs)) (take (end - place) (drop place ds))) (end - place)
    (λ k s. sym (ap₂ times (count_in_part cs place (end - place) k s) (count_in_part ds place (end - place) k s)))
    ∙ ap (sum_to (together (take (end - place) (drop place cs)) (take (end - place) (drop place ds))))
    (sym (part_length cs place (end - place) (omega (arith, l, m))))
    ∙ sym d)
    ∙ sym p

-- the same parts of two lists, by other numbers
pub same_parts : (cs ds : List Count) (a b c n : ℕ) → a ≡ n → b ≡ n → c ≡ n
    → sum_to (together (take a cs) (take b ds)) c ≡ sum_to (together (take n cs) (take n ds)) n
same_parts cs ds a b c n p q r =
    ap₂ (λ i j. sum_to (together (take i cs) (take j ds)) c) p q
    ∙ ap (sum_to (together (take n cs) (take n ds))) r
