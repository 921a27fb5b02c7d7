-- Words of different lengths as names of variables.
use Rattle.std.specs.Prelude.{◌≡◌, ◌<◌, ◌≤◌, ◌&&◌, ◌||◌, ℕ, zero, suc, Bool, true, false, not, cond, All, List, [], ◌∷◌}
use Rattle.std.specs.Prelude.{length, bytes_eq, refl}
use Rattle.std.specs.List.{list_all, list_any}
use Rattle.std.proofs.Common.{arith, ap, ap₂, sym, ◌∙◌}
use Rattle.std.proofs.lemmas.List.Elements.{All-head, All-tail, All-weaker}
use Rattle.std.proofs.lemmas.Slice.Eq.{bytes_eq-Decides}
use Rattle.larch_term.specs.Operator.{PlainOperator}
use Rattle.larch_term.specs.Substitution.{image, instance_of}
use Rattle.larch_term.specs.Tree.{Tree, var}
use Rattle.larch_term.specs.Variable.{occurrences, same_variable}
use Rattle.larch_term.specs.declared.substitution.Entry.{Entry}
use Rattle.larch_term.specs.declared.variable.Variable.{Variable}
use Rattle.larch_calculus.proofs.TermLawAgreement.{AgreeOn, same_by_agreement}
use Rattle.larch_calculus.proofs.TermLawSubstitutions.{substituted_nil}
use Rattle.larch_calculus.specs.Formula.{constant}
use Rattle.larch_calculus.specs.Freed.{constants_for}
use Rattle.larch_derive.specs.VerifyMeaningMatching.{all_different, are_apart, occurs_in}
use Rattle.larch_methods.specs.Observers.{HasShorterNames, variables_for, word_of}

-- ---- words

pub word_length : (n : ℕ) → length (word_of n) ≡ n
word_length zero = refl
word_length (suc n) = ap suc (word_length n)

not_true : (b : Bool) → (b ≡ true → ⊥) → b ≡ false
not_true true h = absurd (h refl)
not_true false h = refl

other_lengths : (n m : List ℕ) (a b : ℕ) → length n ≡ a → length m ≡ b → a < b → n ≡ m → ⊥
other_lengths n m a b p q lt e = let k : length n ≡ length m = ap length e in absurd (omega (arith, p, q, lt, k))

shorter_differs : (n m : List ℕ) (a b : ℕ) → length n ≡ a → length m ≡ b → a < b → bytes_eq n m ≡ false
shorter_differs n m a b p q lt =
    not_true (bytes_eq n m) (λ e. other_lengths n m a b p q lt ((bytes_eq-Decides n m).0 e))

longer_differs : (n m : List ℕ) (a b : ℕ) → length n ≡ a → length m ≡ b → b < a → bytes_eq n m ≡ false
longer_differs n m a b p q lt =
    not_true (bytes_eq n m) (λ e. other_lengths m n b a q p lt (sym ((bytes_eq-Decides n m).0 e)))

itself : (n : List ℕ) → bytes_eq n n ≡ true
itself n = (bytes_eq-Decides n n).1 refl

-- ---- the variables differ, and occur in no term of shorter names

behind_differs : (v : Variable) (m n : ℕ) (cs : List PlainOperator) → length v.name ≡ m → m < n
    → list_any (same_variable v) (variables_for n cs) ≡ false
behind_differs v m n [] p lt = refl
behind_differs v m n (c ∷ cs) p lt =
    ap₂ (λ x y. x || y)
    (ap (λ b. b && bytes_eq v.sort c.range) (shorter_differs v.name (word_of n) m n p (word_length n) lt))
    (behind_differs v m (suc n) cs p (omega (arith, lt)))

pub words_differ : (n : ℕ) (cs : List PlainOperator) → all_different (variables_for n cs) ≡ true
words_differ n [] = refl
words_differ n (c ∷ cs) =
    ap₂ (λ x y. not x && y)
    (behind_differs (record { name = word_of n; sort = c.range }) n (suc n) cs (word_length n) (omega arith))
    (words_differ (suc n) cs)

absent : (v : Variable) (m n : ℕ) (us : List Variable) → length v.name ≡ m → n ≤ m → All (λ u. length u.name < n) us
    → list_any (same_variable v) us ≡ false
absent v m n [] p le h = refl
absent v m n (u ∷ us) p le h =
    let lt = All-head (λ (w : Variable). length w.name < n) u us h in
    ap₂ (λ x y. x || y)
    (ap (λ b. b && bytes_eq v.sort u.sort)
    (longer_differs v.name u.name m (length u.name) p refl (omega (arith, lt, le))))
    (absent v m n us p le (All-tail (λ (w : Variable). length w.name < n) u us h))

words_absent : (n m : ℕ) (cs : List PlainOperator) (l r : Tree) → n ≤ m → HasShorterNames n l → HasShorterNames n r
    → list_all (λ v. not (occurs_in l v) && not (occurs_in r v)) (variables_for m cs) ≡ true
words_absent n m [] l r le g h = refl
words_absent n m (c ∷ cs) l r le g h =
    let v : Variable = record { name = word_of m; sort = c.range } in
    ap₂ (λ x y. x && y)
    (ap₂ (λ x y. not x && not y) (absent v m n (occurrences l) (word_length m) le g)
    (absent v m n (occurrences r) (word_length m) le h))
    (words_absent n (suc m) cs l r (omega (arith, le)) g h)

pub words_apart : (n : ℕ) (cs : List PlainOperator) (l r : Tree) → HasShorterNames n l → HasShorterNames n r
    → are_apart (variables_for n cs) l r ≡ true
words_apart n cs l r g h =
    ap₂ (λ x y. x && y) (words_differ n cs) (words_absent n n cs l r (omega arith) g h)

-- ---- the constants in their places

-- the constants are the images of words in turn
abbrev pub AreImages : List Entry → ℕ → List PlainOperator → Type 0
AreImages es n [] = Unit {0}
AreImages es n (c ∷ cs) = (image es (word_of n) c.range ≡ constant c) × AreImages es (suc n) cs

images_behind : (e : Entry) (es : List Entry) (m n : ℕ) (cs : List PlainOperator) → length e.name ≡ m → m < n
    → AreImages es n cs → AreImages (e ∷ es) n cs
images_behind e es m n [] p lt h = tt
images_behind e es m n (c ∷ cs) p lt h = (
  ap (λ b. cond (b && bytes_eq e.sort c.range) e.term (image es (word_of n) c.range))
      (shorter_differs e.name (word_of n) m n p (word_length n) lt)
      ∙ h.0,
  images_behind e es m (suc n) cs p (omega (arith, lt)) h.1,
)

pub constants_are_images : (n : ℕ) (cs : List PlainOperator) → AreImages (constants_for (variables_for n cs) cs) n cs
constants_are_images n [] = tt
constants_are_images n (c ∷ cs) =
    let es = constants_for (variables_for (suc n) cs) cs in (
      ap₂ (λ x y. cond (x && y) (constant c) (image es (word_of n) c.range)) (itself (word_of n)) (itself c.range),
      images_behind (record { name = word_of n; sort = c.range; term = constant c }) es n (suc n) cs (word_length n)
          (omega arith) (constants_are_images (suc n) cs),
    )

shorter_stays : (n : ℕ) (cs : List PlainOperator) (m s : List ℕ) → length m < n
    → image (constants_for (variables_for n cs) cs) m s ≡ var m s
shorter_stays n [] m s lt = refl
shorter_stays n (c ∷ cs) m s lt =
    let es = constants_for (variables_for (suc n) cs) cs in
    ap (λ b. cond (b && bytes_eq c.range s) (constant c) (image es m s))
    (longer_differs (word_of n) m n (length m) (word_length n) refl lt)
    ∙ shorter_stays (suc n) cs m s (omega (arith, lt))

-- a term of shorter names stays as it is
pub term_stays : (n : ℕ) (cs : List PlainOperator) (t : Tree) → HasShorterNames n t
    → instance_of (constants_for (variables_for n cs) cs) t ≡ t
term_stays n cs t h =
    let es = constants_for (variables_for n cs) cs in
    same_by_agreement es [] t
    (All-weaker (λ v. length v.name < n) (AgreeOn es []) (λ v lt. shorter_stays n cs v.name v.sort lt)
    (occurrences t) h)
    ∙ substituted_nil t
