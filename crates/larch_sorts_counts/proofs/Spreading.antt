-- Counts of which a part is held.
use Rattle.std.proofs.Common.{◌≡◌, ℕ, ◌+◌, ◌<◌, ◌≤◌, zero, suc, List, [], ◌∷◌, set, length, replicate, get_or}
use Rattle.std.proofs.Common.{All, take, inl, inr, refl, sym, ◌∙◌, ap, subst, arith}
use Rattle.std.proofs.lemmas.List.{set-get_or, set_past, take_all}
use Rattle.std.proofs.lemmas.List.Elements.{All-more, All-same, All-weaker}
use Rattle.larch_sorts_counts.specs.Count.{alone, count_at, plus, sum_to}
use Rattle.larch_sorts_counts.specs.Spread.{LiesBetween, spread}
use Rattle.larch_sorts_counts.specs.declared.count.Count.{Count}
use Rattle.larch_sorts_counts.specs.declared.count.Count.TheVariants.{Never}
use Rattle.larch_sorts_counts.specs.declared.numbers.Numbered.{Numbered}
use Rattle.larch_sorts_counts.proofs.Counting.{earlier_or_now, plus_never}

pub spread_length : (n first : ℕ) (held : List Count) → length (spread n first held) ≡ n
spread_length zero first held = refl
spread_length (suc n) zero [] = ap suc (spread_length n zero [])
spread_length (suc n) zero (c ∷ held) = ap suc (spread_length n zero held)
spread_length (suc n) (suc first) held = ap suc (spread_length n first held)

-- nothing is counted before the first that is held
pub spread_before : (n first : ℕ) (held : List Count) (i : ℕ) → i < first → count_at (spread n first held) i ≡ Never
spread_before zero first held i l = refl
spread_before (suc n) zero held i l = absurd (omega (arith, l))
spread_before (suc n) (suc first) held zero l = refl
spread_before (suc n) (suc first) held (suc i) l = spread_before n first held i (omega (arith, l))

-- nor behind the last
pub spread_behind : (n first : ℕ) (held : List Count) (i : ℕ) → first + length held ≤ i
    → count_at (spread n first held) i ≡ Never
spread_behind zero first held i l = refl
spread_behind (suc n) zero [] zero l = refl
spread_behind (suc n) zero [] (suc i) l = spread_behind n zero [] i (omega arith)
spread_behind (suc n) zero (c ∷ held) zero l = absurd (omega (arith, l))
spread_behind (suc n) zero (c ∷ held) (suc i) l = spread_behind n zero held i (omega (arith, l))
spread_behind (suc n) (suc first) held zero l = absurd (omega (arith, l))
spread_behind (suc n) (suc first) held (suc i) l = spread_behind n first held i (omega (arith, l))

-- what is held stands from the first number on
pub spread_held : (n first : ℕ) (held : List Count) (i k : ℕ) → i ≡ first + k → first + length held ≤ n
    → count_at (spread n first held) i ≡ count_at held k
spread_held zero zero [] i k e l = refl
spread_held zero zero (c ∷ held) i k e l = absurd (omega (arith, l))
spread_held zero (suc first) held i k e l = absurd (omega (arith, l))
spread_held (suc n) zero [] zero k e l = refl
spread_held (suc n) zero [] (suc i) k e l = spread_held n zero [] i i (omega arith) (omega arith)
spread_held (suc n) zero (c ∷ held) zero zero e l = refl
spread_held (suc n) zero (c ∷ held) zero (suc k) e l = absurd (omega (arith, e))
spread_held (suc n) zero (c ∷ held) (suc i) zero e l = absurd (omega (arith, e))
spread_held (suc n) zero (c ∷ held) (suc i) (suc k) e l =
    spread_held n zero held i k (omega (arith, e)) (omega (arith, l))
spread_held (suc n) (suc first) held zero k e l = absurd (omega (arith, e))
spread_held (suc n) (suc first) held (suc i) k e l = spread_held n first held i k (omega (arith, e)) (omega (arith, l))

pub spread_set : (n first : ℕ) (held : List Count) (i k : ℕ) (c : Count) → i ≡ first + k → first + length held ≤ n
    → k < length held → set (spread n first held) i c ≡ spread n first (set held k c)
spread_set zero zero [] i k c e l m = absurd (omega (arith, m))
spread_set zero zero (d ∷ held) i k c e l m = absurd (omega (arith, l))
spread_set zero (suc first) held i k c e l m = absurd (omega (arith, l))
spread_set (suc n) zero [] i k c e l m = absurd (omega (arith, m))
spread_set (suc n) zero (d ∷ held) zero zero c e l m = refl
spread_set (suc n) zero (d ∷ held) zero (suc k) c e l m = absurd (omega (arith, e))
spread_set (suc n) zero (d ∷ held) (suc i) zero c e l m = absurd (omega (arith, e))
spread_set (suc n) zero (d ∷ held) (suc i) (suc k) c e l m =
    ap (λ cs. d ∷ cs) (spread_set n zero held i k c (omega (arith, e)) (omega (arith, l)) (omega (arith, m)))
spread_set (suc n) (suc first) held zero k c e l m = absurd (omega (arith, e))
spread_set (suc n) (suc first) held (suc i) k c e l m =
    ap (λ cs. Never ∷ cs) (spread_set n first held i k c (omega (arith, e)) (omega (arith, l)) m)

-- no counts, wherever they are held
pub spread_blank : (n first m : ℕ) → first + m ≤ n → spread n first (replicate m Never) ≡ replicate n Never
spread_blank zero first m l = refl
spread_blank (suc n) zero zero l = ap (λ cs. Never ∷ cs) (spread_blank n zero zero (omega arith))
spread_blank (suc n) zero (suc m) l = ap (λ cs. Never ∷ cs) (spread_blank n zero m (omega (arith, l)))
spread_blank (suc n) (suc first) m l = ap (λ cs. Never ∷ cs) (spread_blank n first m (omega (arith, l)))

-- one count alone
pub spread_alone : (n number : ℕ) (c : Count) → number < n → spread n number (c ∷ []) ≡ set (replicate n Never) number c
spread_alone zero number c l = absurd (omega (arith, l))
spread_alone (suc n) zero c l = ap (λ cs. c ∷ cs) (spread_blank n zero zero (omega arith))
spread_alone (suc n) (suc number) c l = ap (λ cs. Never ∷ cs) (spread_alone n number c (omega (arith, l)))

-- one count more is added, where there is such a number
module _ (n first : ℕ) (held new : List Count) (number k : ℕ) (count : Count) (fits : first + length held ≤ n) where
  pub added_within : number ≡ first + k → k < length held
      → new ≡ set held k (plus (count_at held k) count)
      → spread n first new
      ≡ set (spread n first held) number (plus (count_at (spread n first held) number) count)
  added_within e l is =
      ap (spread n first) is
      ∙ sym (spread_set n first held number k (plus (count_at held k) count) e fits l)
      ∙ ap (λ d. set (spread n first held) number (plus d count)) (sym (spread_held n first held number k e fits))

pub added_outside : (n first : ℕ) (held : List Count) (number : ℕ) (c : Count) → n ≤ number
    → spread n first held ≡ set (spread n first held) number c
added_outside n first held number c l =
    sym (set_past (spread n first held) number c
    (subst (λ m. m ≤ number) (sym (spread_length n first held)) l))

-- sums to numbers between which nothing is counted
pub sum_none : (f : ℕ → Count) (n : ℕ) → ((k : ℕ) → k < n → f k ≡ Never) → sum_to f n ≡ Never
sum_none f zero h = refl
sum_none f (suc n) h =
    ap (λ c. plus c (f n)) (sum_none f n (λ k l. h k (omega (arith, l)))) ∙ h n (omega arith)

pub sum_further : (f : ℕ → Count) (m n : ℕ) → m ≤ n → ((k : ℕ) → m ≤ k → k < n → f k ≡ Never)
    → sum_to f m ≡ sum_to f n
sum_further f m zero l h = let e : m ≡ zero = omega (arith, l) in ap (sum_to f) e
sum_further f m (suc n) l h =
    elim (earlier_or_now m (suc n) (omega (arith, l))) [
      | inl s ↦
          sum_further f m n (omega (arith, s)) (λ k a b. h k a (omega (arith, b)))
          ∙ sym (plus_never (sum_to f n)) ∙ ap (plus (sum_to f n)) (sym (h n (omega (arith, s)) (omega arith)))
      | inr e ↦ ap (sum_to f) e
    ]

pub alone_within : (numbers size number : ℕ) (c : Count) → numbers ≡ suc size → number < numbers
    → spread numbers number (c ∷ []) ≡ alone size number c
alone_within numbers size number c e l =
    spread_alone numbers number c l ∙ ap (λ n. set (replicate n Never) number c) e

pub alone_outside : (numbers size number : ℕ) (c : Count) → numbers ≡ suc size → numbers ≤ number
    → spread numbers zero [] ≡ alone size number c
alone_outside numbers size number c e l =
    added_outside numbers zero [] number c l
    ∙ ap (λ cs. set cs number c) (spread_blank numbers zero zero (omega arith))
    ∙ ap (λ n. set (replicate n Never) number c) e

-- the count at a number, by where it is held
pub count_held : (n first : ℕ) (held : List Count) (number place : ℕ) → first + length held ≤ n
    → number ≡ first + place → count_at held place ≡ count_at (spread n first held) number
count_held n first held number place l e =
    sym (spread_held n first held number place e l)

-- the numbers of operators lie between two
module _ (gs : List Numbered) (n : ℕ) where
  pub lie_more : (i : ℕ) (g : Numbered) (first end least most : ℕ) → i < length gs → g ≡ get_or gs i g
      → least ≤ first → end ≤ most → LiesBetween least most n g.range
      → All (λ h. LiesBetween first end n h.range) (take i gs)
      → All (λ h. LiesBetween least most n h.range) (take (i + 1) gs)
  lie_more i g first end least most l is a b here all =
      All-more (λ (h : Numbered). LiesBetween least most n h.range) gs i g l
      (All-weaker (λ (h : Numbered). LiesBetween first end n h.range)
      (λ (h : Numbered). LiesBetween least most n h.range)
      (λ h k m. let q = k m in (omega (arith, a, q.0), omega (arith, b, q.1))) (take i gs) all)
      (subst (λ (h : Numbered). LiesBetween least most n h.range) is here)

  pub lie_all : (i first end : ℕ) → length gs ≤ i → All (λ h. LiesBetween first end n h.range) (take i gs)
      → All (λ h. LiesBetween first end n h.range) gs
  lie_all i first end l all =
      All-same (λ (h : Numbered). LiesBetween first end n h.range) gs (take i gs) (sym (take_all i gs l)) all

-- where nothing is added all counts stay
pub nothing_added : (cs : List Count) (number : ℕ) (count : Count) → count ≡ Never
    → cs ≡ set cs number (plus (count_at cs number) count)
nothing_added cs number count e =
    sym (ap (λ c. set cs number (plus (count_at cs number) c)) e
    ∙ ap (set cs number) (plus_never (count_at cs number))
    ∙ set-get_or cs number Never)
