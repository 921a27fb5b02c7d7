-- Counts of things with a property.
use Rattle.std.proofs.Common.{◌≡◌, ℕ, ◌<◌, ◌≤◌, zero, suc, ◌⊎◌, inl, inr, List, [], ◌∷◌, set, length, replicate, refl}
use Rattle.std.proofs.Common.{sym, ◌∙◌, ap, ap₂, subst, arith}
use Rattle.larch_sorts_counts.specs.Count.{IsCount, blank, count_at, plus, sum_to, times}
use Rattle.larch_sorts_meaning.specs.Readings.{IsOnly}
use Rattle.larch_sorts_counts.specs.declared.count.Count.{Count}
use Rattle.larch_sorts_counts.specs.declared.count.Count.TheVariants.{Never, Often, Once}

-- what is counted of one property is counted of each that the same things have
pub count_same : {A : Type 0} (P Q : A → Type 0) → ((x : A) → P x → Q x) → ((x : A) → Q x → P x) → (c : Count)
    → IsCount c P → IsCount c Q
count_same P Q to from Never h = λ x q. h x (from x q)
count_same P Q to from Once h = (h.0, (to h.0 h.1.0, λ y q. h.1.1 y (from y q)))
count_same P Q to from Often h = (h.0, h.1, to h.0 h.2, to h.1 h.3, h.4)

-- the one thing that is counted is any that has the property
pub count_once : {A : Type 0} (P : A → Type 0) (y : A) → IsCount Once P → P y → IsOnly P y
count_once P y h p = (p, λ z q. h.1.1 z q ∙ sym (h.1.1 y p))

-- something has a property of which the count isn't none
pub counted_thing : {A : Type 0} (P : A → Type 0) (c : Count) → (c ≡ Never → ⊥) → IsCount c P → (x : A) × P x
counted_thing P Never n h = absurd (n refl)
counted_thing P Once n h = (h.0, h.1.0)
counted_thing P Often n h = (h.0, h.2)

-- things with one property or another, where nothing has both
pub count_either : {A : Type 0} (P Q : A → Type 0) → ((x : A) → P x → Q x → ⊥) → (c d : Count) → IsCount c P
    → IsCount d Q → IsCount (plus c d) (λ x. P x ⊎ Q x)
count_either P Q apart Never d h k =
    count_same Q (λ x. P x ⊎ Q x) (λ x q. inr q) (λ x p. elim p [ inl a ↦ absurd (h x a) | inr b ↦ b ]) d k
count_either P Q apart Once Never h k = (h.0, (inl h.1.0, λ y p. elim p [ inl a ↦ h.1.1 y a | inr b ↦ absurd (k y b) ]))
count_either P Q apart Once Once h k = (h.0, k.0, inl h.1.0, inr k.1.0, λ e. apart h.0 h.1.0 (subst Q (sym e) k.1.0))
count_either P Q apart Once Often h k = (k.0, k.1, inr k.2, inr k.3, k.4)
count_either P Q apart Often d h k = (h.0, h.1, inl h.2, inl h.3, h.4)

-- what a function without repetitions makes of things
pub count_along : {A B : Type 0} (P : A → Type 0) (R : B → Type 0) (make : A → B) → ((x : A) → P x → R (make x))
    → ((z : B) → R z → (x : A) × P x × (z ≡ make x))
    → ((x y : A) → make x ≡ make y → x ≡ y) → (c : Count) → IsCount c P → IsCount c R
count_along P R make to from inj Never h = λ z r. let w = from z r in h w.0 w.1
count_along P R make to from inj Once h =
    (make h.0, (to h.0 h.1.0, λ z r. let w = from z r in w.2 ∙ ap make (h.1.1 w.0 w.1)))
count_along P R make to from inj Often h = (make h.0, make h.1, to h.0 h.2, to h.1 h.3, λ e. h.4 (inj h.0 h.1 e))

-- things that are made of one with a property and another with another
module _ {A B C : Type 0} (P : A → Type 0) (Q : B → Type 0) (R : C → Type 0) (join : A → B → C)
    (to : (x : A) (y : B) → P x → Q y → R (join x y))
    (from : (z : C) → R z → (x : A) × (y : B) × (z ≡ join x y) × P x × Q y)
    (first : (x u : A) (y v : B) → join x y ≡ join u v → x ≡ u)
    (second : (x u : A) (y v : B) → join x y ≡ join u v → y ≡ v) where
  pub count_both : (c d : Count) → IsCount c P → IsCount d Q → IsCount (times c d) R
  count_both Never d h k = λ z r. let w = from z r in h w.0 w.3
  count_both Once Never h k = λ z r. let w = from z r in k w.1 w.4
  count_both Once Once h k = (
    join h.0 k.0,
    (
      to h.0 k.0 h.1.0 k.1.0,
      λ z r. let w = from z r in
          w.2 ∙ ap₂ join (h.1.1 w.0 w.3) (k.1.1 w.1 w.4),
    ),
  )
  count_both Once Often h k =
      (join h.0 k.0, join h.0 k.1, to h.0 k.0 h.1.0 k.2, to h.0 k.1 h.1.0 k.3, λ e. k.4 (second h.0 h.0 k.0 k.1 e))
  count_both Often Never h k = λ z r. let w = from z r in k w.1 w.4
  count_both Often Once h k =
      (join h.0 k.0, join h.1 k.0, to h.0 k.0 h.2 k.1.0, to h.1 k.0 h.3 k.1.0, λ e. h.4 (first h.0 h.1 k.0 k.0 e))
  count_both Often Often h k =
      (join h.0 k.0, join h.1 k.0, to h.0 k.0 h.2 k.2, to h.1 k.0 h.3 k.2, λ e. h.4 (first h.0 h.1 k.0 k.0 e))

-- a number below the next is below this one, or this one
pub earlier_or_now : (j i : ℕ) → j < suc i → (j < i) ⊎ (j ≡ i)
earlier_or_now zero zero l = inr refl
earlier_or_now zero (suc i) l = inl (omega arith)
earlier_or_now (suc j) zero l = absurd (omega (arith, l))
earlier_or_now (suc j) (suc i) l =
    elim (earlier_or_now j i (omega (arith, l))) [ inl h ↦ inl (omega (arith, h)) | inr e ↦ inr (ap suc e) ]

-- several things stay several with further ones
pub often_stays : (f : ℕ → Count) (k n : ℕ) → k ≤ n → sum_to f k ≡ Often → sum_to f n ≡ Often
often_stays f zero zero l e = e
often_stays f (suc k) zero l e = absurd (omega (arith, l))
often_stays f k (suc n) l e =
    elim (earlier_or_now k (suc n) (omega (arith, l))) [
      | inl h ↦ ap (λ c. plus c (f n)) (often_stays f k n (omega (arith, h)) e)
      | inr same ↦ subst (λ m. sum_to f m ≡ Often) same e
    ]

-- things with a number below one
pub count_below : {A : Type 0} (P : A → Type 0) (number : A → ℕ) (f : ℕ → Count) (n : ℕ)
    → ((i : ℕ) → i < n → IsCount (f i) (λ x. P x × (number x ≡ i)))
    → IsCount (sum_to f n) (λ x. P x × (number x < n))
count_below P number f zero h = λ x q. let l = q.1 in absurd (omega (arith, l))
count_below P number f (suc n) h =
    count_same (λ x. (P x × (number x < n)) ⊎ (P x × (number x ≡ n))) (λ x. P x × (number x < suc n))
    (λ x p. elim p [ inl a ↦ (a.0, let l = a.1 in omega (arith, l)) | inr b ↦ (b.0, let e = b.1 in omega (arith, e)) ])
    (λ x q. elim (earlier_or_now (number x) n q.1) [ inl l ↦ inl (q.0, l) | inr e ↦ inr (q.0, e) ])
    (plus (sum_to f n) (f n))
    (count_either (λ x. P x × (number x < n)) (λ x. P x × (number x ≡ n))
    (λ x a b. let l = a.1 in let e = b.1 in omega (arith, l, e)) (sum_to f n) (f n)
    (count_below P number f n (λ i l. h i (omega (arith, l)))) (h n (omega arith)))

-- things that all have a number below one
pub count_all : {A : Type 0} (P : A → Type 0) (number : A → ℕ) (f : ℕ → Count) (n : ℕ) → ((x : A) → P x → number x < n)
    → ((i : ℕ) → i < n → IsCount (f i) (λ x. P x × (number x ≡ i)))
    → IsCount (sum_to f n) P
count_all P number f n all h =
    count_same (λ x. P x × (number x < n)) P (λ x q. q.0) (λ x p. (p, all x p)) (sum_to f n)
    (count_below P number f n h)

-- a list with a new count at a number has it there, and else what it had
pub set_at : (cs : List Count) (r i : ℕ) (c : Count) → r < length cs
    → ((r ≡ i) × (count_at (set cs r c) i ≡ c)) ⊎ ((r ≡ i → ⊥) × (count_at (set cs r c) i ≡ count_at cs i))
set_at [] r i c l = absurd (omega (arith, l))
set_at (x ∷ xs) zero zero c l = inl (refl, refl)
set_at (x ∷ xs) zero (suc i) c l = inr (λ e. omega (arith, e), refl)
set_at (x ∷ xs) (suc r) zero c l = inr (λ e. omega (arith, e), refl)
set_at (x ∷ xs) (suc r) (suc i) c l =
    elim (set_at xs r i c (omega (arith, l)))
    [ inl h ↦ inl (ap suc h.0, h.1) | inr h ↦ inr (λ e. h.0 (omega (arith, e)), h.1) ]

never_at : (n i : ℕ) → count_at (replicate n Never) i ≡ Never
never_at zero i = refl
never_at (suc n) zero = refl
never_at (suc n) (suc i) = never_at n i

-- nothing is counted in no counts
pub blank_at : (n i : ℕ) → count_at (blank n) i ≡ Never
blank_at n i = never_at (suc n) i

pub plus_never : (c : Count) → plus c Never ≡ c
plus_never Never = refl
plus_never Once = refl
plus_never Often = refl

pub times_never : (c : Count) → times c Never ≡ Never
times_never Never = refl
times_never Once = refl
times_never Often = refl

pub times_same : (c : Count) → times c c ≡ c
times_same Never = refl
times_same Once = refl
times_same Often = refl

pub times_times : (a b c : Count) → times (times a b) c ≡ times a (times b c)
times_times Never b c = refl
times_times Once b c = refl
times_times Often Never c = refl
times_times Often Once c = refl
times_times Often Often Never = refl
times_times Often Often Once = refl
times_times Often Often Often = refl

pub plus_plus : (a b c : Count) → plus (plus a b) c ≡ plus a (plus b c)
plus_plus Never b c = refl
plus_plus Once Never c = refl
plus_plus Once Once Never = refl
plus_plus Once Once Once = refl
plus_plus Once Once Often = refl
plus_plus Once Often c = refl
plus_plus Often b c = refl
