-- Assignments with other values for some variables, and the truth of what is so under all of them.
use Rattle.std.proofs.Common.{◌≡◌, ◌≢◌, ◌≤◌, ◌==◌, ◌&&◌, ℕ, zero, suc, inl, inr, ◌⊎◌, Bool, true, false, cond, List, []}
use Rattle.std.proofs.Common.{◌∷◌, bytes_eq, Contains, refl, sym, ◌∙◌, ap, subst, arith}
use Rattle.std.proofs.lemmas.Slice.Eq.{bytes_eq-Decides}
use Rattle.larch_base.proofs.Bools.{and_left, and_right, and_both}
use Rattle.larch_base.proofs.Members.{contains_none, contains_cases}
use Rattle.larch_term.specs.Tree.{Tree}
use Rattle.larch_term.specs.Variable.{occurrences, variables_of}
use Rattle.larch_term_law.proofs.Occurring.{all_have, all_keep, listed_occurs}
use Rattle.larch_term.specs.declared.variable.Variable.{Variable}
use Rattle.larch_models_meaning.specs.Interpretation.{Interpretation, Assignment, value_of, InRange}
use Rattle.larch_models_meaning.specs.Computed.{all_up_to, update, all_assignments, variables_of_both, zeros}
use Rattle.larch_soundness.proofs.Values.{Alike, value_alike, same_numbers, numbers_same}

-- whether the variable of this name and sort is this other one
abbrev pub is_variable : List ℕ → List ℕ → List ℕ → List ℕ → Bool
is_variable x s n r = bytes_eq x n && bytes_eq s r

pub variable_is : (x s n r : List ℕ) → is_variable x s n r ≡ true → (x ≡ n) × (s ≡ r)
variable_is x s n r e = (
  (bytes_eq-Decides x n).0 (and_left (bytes_eq x n) (bytes_eq s r) e),
  (bytes_eq-Decides s r).0 (and_right (bytes_eq x n) (bytes_eq s r) e),
)

is_itself : (x s : List ℕ) → is_variable x s x s ≡ true
is_itself x s = and_both (bytes_eq x x) (bytes_eq s s) ((bytes_eq-Decides x x).1 refl) ((bytes_eq-Decides s s).1 refl)

-- what each of two values has that is the choice if the choice falls on it, the choice has
choice_has : {X : Type 0} (P : X → Type 0) (b : Bool) (u v : X) → (b ≡ true → P u) → (b ≡ false → P v) → P (cond b u v)
choice_has P true u v p q = p refl
choice_has P false u v p q = q refl

pub updated_in_range : (last : List ℕ → ℕ) (a : Assignment) (x s : List ℕ) (v : ℕ) → v ≤ last s → InRange last a
    → InRange last (update x s v a)
updated_in_range last a x s v le r n t =
    choice_has (λ k. k ≤ last t) (is_variable x s n t) v (a n t)
    (λ e. subst (λ z. v ≤ last z) (variable_is x s n t e).1 le) (λ e. r n t)

pub updated_itself : (a : Assignment) (x s : List ℕ) → update x s (a x s) a ≡ a
updated_itself a x s =
    λ i n t. choice_has (λ k. k ≡ a n t) (is_variable x s n t) (a x s) (a n t)
    (λ e. let p = variable_is x s n t e in λ j. a (p.0 j) (p.1 j)) (λ e. refl) i

pub updated_here : (a : Assignment) (x s : List ℕ) (v : ℕ) → update x s v a x s ≡ v
updated_here a x s v = ap (λ c. cond c v (a x s)) (is_itself x s)

pub updated_elsewhere : (a : Assignment) (w x : Variable) (v : ℕ) → w ≢ x
    → update w.name w.sort v a x.name x.sort ≡ a x.name x.sort
updated_elsewhere a w x v h =
    choice_has (λ k. k ≡ a x.name x.sort) (is_variable w.name w.sort x.name x.sort) v (a x.name x.sort)
    (λ e. let p = variable_is w.name w.sort x.name x.sort e in absurd (h (λ i. record { name = p.0 i; sort = p.1 i })))
    (λ e. refl)

pub updated_alike : (x s : List ℕ) (v : ℕ) (a b : Assignment) (ws : List Variable) → Alike a b ws
    → Alike (update x s v a) (update x s v b) ws
updated_alike x s v a b ws h w c = ap (cond (is_variable x s w.name w.sort) v) (h w c)

pub zeros_in_range : (last : List ℕ → ℕ) → InRange last zeros
zeros_in_range last n s = omega arith

pub last_or_before : (n v : ℕ) → v ≤ suc n → (v ≡ suc n) ⊎ (v ≤ n)
last_or_before n zero le = inr (omega arith)
last_or_before zero (suc v) le = inl (omega arith)
last_or_before (suc n) (suc v) le =
    elim (last_or_before n v (omega arith)) [ inl e ↦ inl (ap suc e) | inr l ↦ inr (omega (arith, l)) ]

pub up_to_at : (n : ℕ) (p : ℕ → Bool) → all_up_to n p ≡ true → (v : ℕ) → v ≤ n → p v ≡ true
up_to_at zero p h v le = let e : zero ≡ v = omega arith in subst (λ k. p k ≡ true) e h
up_to_at (suc n) p h v le =
    elim (last_or_before n v le) [
      | inl e ↦ subst (λ k. p k ≡ true) (sym e) (and_left (p (suc n)) (all_up_to n p) h)
      | inr l ↦ up_to_at n p (and_right (p (suc n)) (all_up_to n p) h) v l
    ]

pub up_to_if : (n : ℕ) (p : ℕ → Bool) → ((v : ℕ) → v ≤ n → p v ≡ true) → all_up_to n p ≡ true
up_to_if zero p h = h zero (omega arith)
up_to_if (suc n) p h =
    and_both (p (suc n)) (all_up_to n p) (h (suc n) (omega arith)) (up_to_if n p (λ v le. h v (omega (arith, le))))

-- an assignment with the values of another one for these variables
abbrev merged : List Variable → Assignment → Assignment → Assignment
merged [] a b = a
merged (w ∷ ws) a b = merged ws (update w.name w.sort (b w.name w.sort) a) b

assignments_at : (last : List ℕ → ℕ) (ws : List Variable) (a b : Assignment) (p : Assignment → Bool)
    → all_assignments last ws a p ≡ true → InRange last b → p (merged ws a b) ≡ true
assignments_at last [] a b p h r = h
assignments_at last (w ∷ ws) a b p h r =
    assignments_at last ws (update w.name w.sort (b w.name w.sort) a) b p
    (up_to_at (last w.sort) (λ v. all_assignments last ws (update w.name w.sort v a) p) h
    (b w.name w.sort) (r w.name w.sort)) r

assignments_if : (last : List ℕ → ℕ) (ws : List Variable) (a : Assignment) (p : Assignment → Bool) → InRange last a
    → ((b : Assignment) → InRange last b → p b ≡ true) → all_assignments last ws a p ≡ true
assignments_if last [] a p r h = h a r
assignments_if last (w ∷ ws) a p r h =
    up_to_if (last w.sort) (λ v. all_assignments last ws (update w.name w.sort v a) p)
    (λ v le.
    assignments_if last ws (update w.name w.sort v a) p (updated_in_range last a w.name w.sort v le r) h)

merged_keeps : (ws : List Variable) (a b : Assignment) (n s : List ℕ) → a n s ≡ b n s → merged ws a b n s ≡ b n s
merged_keeps [] a b n s h = h
merged_keeps (w ∷ ws) a b n s h =
    merged_keeps ws (update w.name w.sort (b w.name w.sort) a) b n s
    (choice_has (λ k. k ≡ b n s) (is_variable w.name w.sort n s) (b w.name w.sort) (a n s)
    (λ e. let p = variable_is w.name w.sort n s e in λ j. b (p.0 j) (p.1 j)) (λ e. h))

merged_alike : (ws : List Variable) (a b : Assignment) → Alike (merged ws a b) b ws
merged_alike [] a b v c = absurd (contains_none v c)
merged_alike (w ∷ ws) a b v c =
    let here = update w.name w.sort (b w.name w.sort) a in
    elim (contains_cases w v ws c) [
      | inl e ↦ merged_keeps ws here b v.name v.sort
          (subst (λ z. here z.name z.sort ≡ b z.name z.sort) e (updated_here a w.name w.sort (b w.name w.sort)))
      | inr d ↦ merged_alike ws here b v d
    ]

-- a change of assignments that is told by the values of the variables in question
abbrev pub IsLocal : (Assignment → Assignment) → Type 0
IsLocal f = (a b : Assignment) (ws : List Variable) → Alike a b ws → Alike (f a) (f b) ws

-- what occurs in one of two terms is among their variables
of_left : (l r : Tree) (w : Variable) → Contains (occurrences l) w → Contains (variables_of_both l r) w
of_left l r w c = all_keep (variables_of l) (occurrences r) w ((listed_occurs l w).1 c)

of_right : (l r : Tree) (w : Variable) → Contains (occurrences r) w → Contains (variables_of_both l r) w
of_right l r w c = all_have (variables_of l) (occurrences r) w c

-- two terms have one value under every assignment that is so changed
abbrev pub Agree : Interpretation → (Assignment → Assignment) → Tree → Tree → Type 0
Agree m f l r = (a : Assignment) → InRange m.last a → value_of m (f a) l ≡ value_of m (f a) r

abbrev pub agree : Interpretation → (Assignment → Assignment) → Tree → Tree → Bool
agree m f l r =
    all_assignments m.last (variables_of_both l r) zeros (λ a. value_of m (f a) l == value_of m (f a) r)

pub agree_so : (m : Interpretation) (f : Assignment → Assignment) → IsLocal f → (l r : Tree) → agree m f l r ≡ true
    → Agree m f l r
agree_so m f local l r h a g =
    let ws = variables_of_both l r in
    let b = merged ws zeros a in
    let like : Alike b a ws = merged_alike ws zeros a in
    sym (value_alike m (f b) (f a) l (local b a (occurrences l) (λ w c. like w (of_left l r w c))))
    ∙ same_numbers (value_of m (f b) l) (value_of m (f b) r)
    (assignments_at m.last ws zeros a (λ c. value_of m (f c) l == value_of m (f c) r) h g)
    ∙ value_alike m (f b) (f a) r (local b a (occurrences r) (λ w c. like w (of_right l r w c)))

pub agree_if : (m : Interpretation) (f : Assignment → Assignment) (l r : Tree) → Agree m f l r → agree m f l r ≡ true
agree_if m f l r h =
    assignments_if m.last (variables_of_both l r) zeros (λ a. value_of m (f a) l == value_of m (f a) r)
    (zeros_in_range m.last) (λ a g. numbers_same (value_of m (f a) l) (value_of m (f a) r) (h a g))
