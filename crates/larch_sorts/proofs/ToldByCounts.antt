-- What counts tell of terms and equations.
use Rattle.std.proofs.Common.{◌≡◌, ℕ, ◌<◌, inl, List, [], ◌∷◌, ◌++◌, Option, Some, None, IfSome, length, refl, sym, ◌∙◌}
use Rattle.std.proofs.Common.{ap, subst, ◌+◌, inr}
use Rattle.larch_raw.specs.RawTree.{RawTree}
use Rattle.larch_raw.specs.declared.equation.RawEquation.{RawEquation}
use Rattle.larch_raw.specs.declared.equation.RawRight.{RawRight}
use Rattle.larch_term.specs.Operator.{PlainOperator}
use Rattle.larch_term.specs.Tree.{Tree}
use Rattle.larch_term.specs.Sorts.{sort_of}
use Rattle.larch_sorts_signature.specs.SortsCountsCount.{IsCount, count_at, sum_to, times}
use Rattle.larch_sorts_signature.specs.SortsCountsCounts.{AreCounts, CountsTell}
use Rattle.larch_sorts_signature.specs.SortsMeaningFound.{Tells}
use Rattle.larch_sorts_signature.specs.SortsMeaningReadings.{ReadsAt, Reads, ReadsLone, ReadsRight}
use Rattle.larch_sorts_signature.specs.SortsCountsNumbers.{AreNumbers, number_of}
use Rattle.larch_sorts_signature.specs.SortsMeaningParts.{in_sides, parts, right_sides}
use Rattle.larch_sorts_signature.specs.SortsMeaningRead.{first_unread, unread_in}
use Rattle.larch_sorts_signature.specs.SortsMeaningScope.{Variables}
use Rattle.larch_sorts.specs.Sides.{ReadBoth, ReadsFormula, ReadsSides}
use Rattle.larch_sorts_signature.specs.SortsMeaningSignature.{taking_part}
use Rattle.larch_sorts_signature.specs.SortsMeaningRefusal.{Unread}
use Rattle.larch_sorts_signature.specs.SortsCountsCountCount.{Count}
use Rattle.larch_sorts_signature.specs.SortsCountsCountCount.TheVariants.{Never}
use Rattle.larch_sorts_signature.specs.SortsMeaningFoundFound.{Found}
use Rattle.larch_sorts.specs.declared.found.Sides.{Sides}
use Rattle.larch_sorts_signature.specs.SortsCountsNumbersNumbers.{Numbers}
use Rattle.larch_sorts_signature.specs.SortsMeaningRefusalReadRefusal.{ReadRefusal}
use Rattle.larch_sorts.proofs.SidesTold.{formula_read, sides_read, equal_sides}
use Rattle.larch_sorts_signature.proofs.SortsMeaningTelling.{tells_same}
use Rattle.larch_sorts_signature.proofs.SortsMeaningUnread.{read_first}
use Rattle.larch_sorts_signature.proofs.SortsCountsCounting.{count_all, count_both, count_same, earlier_or_now}
use Rattle.larch_sorts_signature.proofs.SortsCountsNumbering.{one_number}
use Rattle.larch_sorts_signature.proofs.SortsCountsCountsTold.{below_next}

-- sides that have sorts of one number
abbrev pub SidesAt : List (List ℕ) → List PlainOperator → Variables → RawTree → RawTree → ℕ → Sides → Type 0
SidesAt ss fs vs left right i p =
    (Reads fs vs left p.left × (number_of ss (sort_of p.left) ≡ i))
    × (Reads fs vs right p.right × (number_of ss (sort_of p.right) ≡ i))

module _ (ss : List (List ℕ)) (fs : List PlainOperator) (vs : Variables) (left right : RawTree)
    (lefts rights : List Count) (h : CountsTell ss fs vs left lefts) (k : CountsTell ss fs vs right rights) where
  sides_at : (i : ℕ) → IsCount (times (count_at lefts i) (count_at rights i)) (SidesAt ss fs vs left right i)
  sides_at i =
      count_both (λ t. Reads fs vs left t × (number_of ss (sort_of t) ≡ i))
      (λ t. Reads fs vs right t × (number_of ss (sort_of t) ≡ i)) (SidesAt ss fs vs left right i)
      (λ l r. record { left = l; right = r }) (λ l r p q. (p, q))
      (λ p q. (p.left, p.right, equal_sides p (record { left = p.left; right = p.right }) refl refl, q.0, q.1))
      (λ x u y v e. ap (λ p. p.left) e) (λ x u y v e. ap (λ p. p.right) e) (count_at lefts i)
      (count_at rights i) (h i) (k i)

  -- how often two terms read as terms of one sort
  pub both_counted : times (count_at lefts (length ss)) (count_at rights (length ss)) ≡ Never
      → IsCount (sum_to (λ i. times (count_at lefts i) (count_at rights i)) (length ss)) (ReadBoth fs vs left right)
  both_counted last =
      count_all (ReadBoth fs vs left right) (λ p. number_of ss (sort_of p.left))
      (λ i. times (count_at lefts i) (count_at rights i)) (length ss)
      (λ p r. elim (earlier_or_now (number_of ss (sort_of p.left)) (length ss) (below_next (sort_of p.left) ss)) [
        | inl l ↦ l
        | inr e ↦
            absurd (subst (λ c. IsCount c (SidesAt ss fs vs left right (length ss))) last (sides_at (length ss)) p
            ((r.0, e), (r.1.0, ap (number_of ss) (sym r.1.1) ∙ e)))
      ])
      (λ i l. count_same (SidesAt ss fs vs left right i)
      (λ p. ReadBoth fs vs left right p × (number_of ss (sort_of p.left) ≡ i))
      (λ p q. (
        (
          q.0.0,
          (
            q.1.0,
            one_number ss (sort_of p.left) (sort_of p.right) (q.0.1 ∙ sym q.1.1)
                (subst (λ n. n < length ss) (sym q.1.1) l),
          ),
        ),
        q.0.1,
      ))
      (λ p q. ((q.0.0, q.1), (q.0.1.0, ap (number_of ss) (sym q.0.1.1) ∙ q.1)))
      (times (count_at lefts i) (count_at rights i)) (sides_at i))

-- the count of sides of one sort
pub sides_told : (numbers : Numbers) (fs : List PlainOperator) (vs : Variables) (left right : RawTree)
    (lefts rights : List Count) (c : Count) → AreNumbers numbers (taking_part fs)
    → AreCounts numbers vs left lefts → AreCounts numbers vs right rights
    → times (count_at lefts (length numbers.sorts.keys)) (count_at rights (length numbers.sorts.keys)) ≡ Never
    → c ≡ sum_to (λ i. times (count_at lefts i) (count_at rights i)) (length numbers.sorts.keys)
    → IsCount c (ReadBoth fs vs left right)
sides_told numbers fs vs left right lefts rights c are h k last e =
    subst (λ d. IsCount d (ReadBoth fs vs left right)) (sym e)
    (both_counted numbers.sorts.keys fs vs left right lefts rights (h fs are) (k fs are) last)

-- the same of what was found of them
pub met_told : (numbers : Numbers) (fs : List PlainOperator) (vs : Variables) (left right : RawTree)
    (lefts rights xs ys : List Count) (n : ℕ) (found : Option Count) (c : Count) → AreNumbers numbers (taking_part fs)
    → AreCounts numbers vs left lefts → AreCounts numbers vs right rights → xs ≡ lefts → ys ≡ rights
    → n ≡ length numbers.sorts.keys → found ≡ Some c
    → IfSome found (λ count. (times (count_at xs n) (count_at ys n) ≡ Never)
    × (count ≡ sum_to (λ i. times (count_at xs i) (count_at ys i)) n)) → IsCount c (ReadBoth fs vs left right)
met_told numbers fs vs left right lefts rights xs ys n found c are h k x y m e told =
    let q =
    subst
    (λ o. IfSome o (λ count. (times (count_at xs n) (count_at ys n) ≡ Never)
    × (count ≡ sum_to (λ i. times (count_at xs i) (count_at ys i)) n))) e told in
    let all : (times (count_at lefts (length numbers.sorts.keys)) (count_at rights (length numbers.sorts.keys)) ≡ Never)
    × (c ≡ sum_to (λ i. times (count_at lefts i) (count_at rights i)) (length numbers.sorts.keys)) =
    subst (λ j. (times (count_at lefts j) (count_at rights j) ≡ Never)
    × (c ≡ sum_to (λ i. times (count_at lefts i) (count_at rights i)) j)) m
    (subst (λ bs. (times (count_at lefts n) (count_at bs n) ≡ Never)
    × (c ≡ sum_to (λ i. times (count_at lefts i) (count_at bs i)) n)) y
    (subst (λ zs. (times (count_at zs n) (count_at ys n) ≡ Never)
    × (c ≡ sum_to (λ i. times (count_at zs i) (count_at ys i)) n)) x q)) in
    sides_told numbers fs vs left right lefts rights c are h k all.0 all.1

-- sides of one sort
pub sides_picked : (fs : List PlainOperator) (vs : Variables) (left right : RawTree) (s : List ℕ) (l r : Tree)
    → ReadsAt fs vs left s l → ReadsAt fs vs right s r
    → ReadBoth fs vs left right (record { left = l; right = r })
sides_picked fs vs left right s l r h k = (h.0, (k.0, h.1 ∙ sym k.1))

-- what was found at a sort
pub picked_reads : (fs : List PlainOperator) (vs : Variables) (raw : RawTree) (s : List ℕ) (found : Option Tree)
    (t : Tree) → found ≡ Some t → IfSome found (ReadsAt fs vs raw s) → Reads fs vs raw t
picked_reads fs vs raw s found t e h = (subst (λ o. IfSome o (ReadsAt fs vs raw s)) e h).0

if_told : {X : Type 0} (P Q : X → Type 0) → ((x : X) → P x → Q x) → (o : Option X) → IfSome o P → IfSome o Q
if_told P Q to None h = tt
if_told P Q to (Some x) h = to x h

module _ (fs : List PlainOperator) (vs : Variables) (raw : RawEquation) (told : Option (Option (Found Sides))) where
  -- a formula
  pub formula_told : raw.right ≡ None → IfSome told (λ found. Tells found (ReadsFormula fs vs raw.left))
      → IfSome told (λ found. Tells found (ReadsSides fs vs raw))
  formula_told e h =
      subst
      (λ o. IfSome told (λ found. Tells found (λ p. Reads fs vs raw.left p.left × ReadsRight fs vs o p.left p.right)))
      (sym e) h

  pub formula_told_read : raw.right ≡ None → IfSome told (λ _. unread_in fs vs (parts raw.left) ≡ None)
      → IfSome told (λ _. first_unread fs vs raw ≡ None)
  formula_told_read e h =
      if_told (λ _. unread_in fs vs (parts raw.left) ≡ None) (λ _. first_unread fs vs raw ≡ None)
      (λ x r. formula_read fs vs raw e r) told h

  -- two sides
  pub both_told : (right : RawRight) → raw.right ≡ Some right
      → IfSome told (λ found. Tells found (ReadBoth fs vs raw.left right.term))
      → IfSome told (λ found. Tells found (ReadsSides fs vs raw))
  both_told right e h =
      subst
      (λ o. IfSome told (λ found. Tells found (λ p. Reads fs vs raw.left p.left × ReadsRight fs vs o p.left p.right)))
      (sym e) h

  pub both_told_read : (right : RawRight) → raw.right ≡ Some right
      → IfSome told (λ _. (unread_in fs vs (parts raw.left) ≡ None) × (unread_in fs vs (parts right.term) ≡ None))
      → IfSome told (λ _. first_unread fs vs raw ≡ None)
  both_told_read right e h =
      if_told (λ _. (unread_in fs vs (parts raw.left) ≡ None) × (unread_in fs vs (parts right.term) ≡ None))
      (λ _. first_unread fs vs raw ≡ None)
      (λ x r. sides_read fs vs raw right e r.0 r.1) told h

append_none : {X : Type 0} (xs : List X) → xs ++ [] ≡ xs
append_none [] = refl
append_none (x ∷ xs) = ap (λ ys. x ∷ ys) (append_none xs)

-- what is unread in both sides
pub both_unread : (fs : List PlainOperator) (vs : Variables) (refusal : ReadRefusal) (raw : RawEquation)
    (right : RawRight) → raw.right ≡ Some right
    → Unread refusal (unread_in fs vs (parts raw.left ++ parts right.term)) → Unread refusal (first_unread fs vs raw)
both_unread fs vs refusal raw right e u =
    subst (λ o. Unread refusal (unread_in fs vs (parts raw.left ++ in_sides parts (right_sides o)))) (sym e)
    (subst (λ rs. Unread refusal (unread_in fs vs (parts raw.left ++ rs))) (sym (append_none (parts right.term))) u)

-- what is unread in the second of two terms, where the first is read
pub second_unread : (fs : List PlainOperator) (vs : Variables) (refusal : ReadRefusal) (left right : RawTree)
    → unread_in fs vs (parts left) ≡ None
    → Unread refusal (unread_in fs vs (parts right)) → Unread refusal (unread_in fs vs (parts left ++ parts right))
second_unread fs vs refusal left right r u =
    subst (Unread refusal) (sym (read_first fs vs (parts left) (parts right) r)) u

module _ (fs : List PlainOperator) (vs : Variables) (raw : RawEquation) (wanted : Option (List ℕ))
    (told : Option (Option (Found Tree))) where
  -- a lone term, with no wanted sort and with one
  pub anywhere_told : wanted ≡ None → IfSome told (λ found. Tells found (Reads fs vs raw.left))
      → IfSome told (λ found. Tells found (ReadsLone fs vs wanted raw))
  anywhere_told e h =
      subst (λ o. IfSome told (λ found. Tells found (ReadsLone fs vs o raw))) (sym e)
      (if_told (λ found. Tells found (Reads fs vs raw.left)) (λ found. Tells found (ReadsLone fs vs None raw))
      (tells_same (Reads fs vs raw.left) (ReadsLone fs vs None raw) (λ t r. (r, tt)) (λ t r. r.0)) told h)

  pub wanted_told : (s : List ℕ) → wanted ≡ Some s → IfSome told (λ found. Tells found (ReadsAt fs vs raw.left s))
      → IfSome told (λ found. Tells found (ReadsLone fs vs wanted raw))
  wanted_told s e h = subst (λ o. IfSome told (λ found. Tells found (ReadsLone fs vs o raw))) (sym e) h

  pub lone_read : raw.right ≡ None → IfSome told (λ _. unread_in fs vs (parts raw.left) ≡ None)
      → IfSome told (λ _. first_unread fs vs raw ≡ None)
  lone_read e h =
      if_told (λ _. unread_in fs vs (parts raw.left) ≡ None) (λ _. first_unread fs vs raw ≡ None)
      (λ x r. formula_read fs vs raw e r) told h
