-- What the sides of equations and lone terms read as.
use Rattle.std.proofs.Common.{◌≡◌, inl, inr, ℕ, ◌&&◌, List, [], ◌∷◌, Contains, Option, Some, None, refl, sym, ◌∙◌, ap}
use Rattle.std.proofs.Common.{subst}
use Rattle.std.specs.Bool.{Decides}
use Rattle.std.proofs.lemmas.Bool.Decides.{Decides-and, Decides-like}
use Rattle.std.specs.List.{fold}
use Rattle.larch_raw.specs.declared.equation.RawRight.{RawRight}
use Rattle.larch_raw.specs.declared.equation.RawEquation.{RawEquation}
use Rattle.larch_term.specs.Operator.{PlainOperator}
use Rattle.larch_term.specs.Sorts.{sort_of}
use Rattle.larch_term.specs.Tree.{Tree}
use Rattle.larch_term.specs.BuiltIn.{bool_sort}
use Rattle.larch_term.specs.Truth.{truth}
use Rattle.larch_term.specs.Equality.{same_tree}
use Rattle.larch_term.proofs.Decided.{tree_Decides}
use Rattle.larch_sorts_signature.specs.SortsMeaningRead.{unread_in, first_unread}
use Rattle.larch_sorts_signature.specs.SortsMeaningParts.{parts, right_sides, in_sides}
use Rattle.larch_sorts_signature.specs.SortsMeaningScope.{Variables}
use Rattle.larch_sorts_signature.specs.SortsMeaningReadings.{Reads, ReadsRight, ReadsLone}
use Rattle.larch_sorts_signature.specs.Table.{Entries, reading_at, sorts_in}
use Rattle.larch_sorts_signature.specs.SortsMeaningFound.{Tells, with_found}
use Rattle.larch_sorts.specs.Tabulate.{TableTells}
use Rattle.larch_sorts_signature.specs.SortsMeaningRefusal.{Unread}
use Rattle.larch_sorts.specs.Sides.{AreFound, found_anywhere, same_sides, pair_sides, sides_found, formula_found}
use Rattle.larch_sorts.specs.Sides.{ReadsSides}
use Rattle.larch_sorts_signature.specs.SortsMeaningFoundFound.{Found}
use Rattle.larch_sorts_signature.specs.SortsMeaningFoundFound.TheVariants.{One, Several}
use Rattle.larch_sorts.specs.declared.found.Sides.{Sides}
use Rattle.larch_sorts_signature.specs.SortsMeaningRefusalReadRefusal.{ReadRefusal}
use Rattle.larch_sorts_signature.proofs.SortsMeaningTelling.{tells_same, tells_at_all}
use Rattle.larch_sorts_signature.proofs.SortsMeaningUnread.{read_first, unread_first}
use Rattle.larch_sorts_signature.proofs.Arguments.{found_in_entry}

pub equal_sides : (p q : Sides) → p.left ≡ q.left → p.right ≡ q.right → p ≡ q
equal_sides p q l r = λ i. record { left = l i; right = r i }

sides_Decides : (p q : Sides) → Decides (same_sides p q) (p ≡ q)
sides_Decides p q =
    Decides-like (same_tree p.left q.left && same_tree p.right q.right) (λ h. equal_sides p q h.0 h.1)
    (λ e. (ap (λ s. s.left) e, ap (λ s. s.right) e))
    (Decides-and (same_tree p.left q.left) (same_tree p.right q.right) (tree_Decides p.left q.left)
    (tree_Decides p.right q.right))

in_sorts_by : (P : Tree → Type 0) (es : Entries) (t : Tree) (o : Option (Found Tree)) → reading_at es (sort_of t) ≡ o
    → Tells o (λ u. P u × (sort_of u ≡ sort_of t)) → P t → Contains (sorts_in es) (sort_of t)
in_sorts_by P es t None e h p = absurd (h t (p, refl))
in_sorts_by P es t (Some x) e h p = found_in_entry es (sort_of t) x e

-- a table has an entry for the sort of each thing that it tells of
in_sorts : (P : Tree → Type 0) (es : Entries) → TableTells es P → (t : Tree) → P t → Contains (sorts_in es) (sort_of t)
in_sorts P es h t p = in_sorts_by P es t (reading_at es (sort_of t)) refl (h (sort_of t)) p

-- what is found anywhere in a table
pub anywhere_tells : (P : Tree → Type 0) (es : Entries) → TableTells es P → Tells (found_anywhere es) P
anywhere_tells P es h = tells_at_all same_tree tree_Decides P sort_of (reading_at es) h (sorts_in es) (in_sorts P es h)

-- two sides with these properties, of one sort
abbrev Pair : (Tree → Type 0) → (Tree → Type 0) → Sides → Type 0
Pair P Q p = P p.left × (Q p.right × (sort_of p.left ≡ sort_of p.right))

paired_tells : (P Q : Tree → Type 0) (s : List ℕ) (left right : Option (Found Tree))
    → Tells left (λ t. P t × (sort_of t ≡ s)) → Tells right (λ t. Q t × (sort_of t ≡ s))
    → Tells (pair_sides left right) (λ p. Pair P Q p × (sort_of p.left ≡ s))
paired_tells P Q s None right h k = λ p q. h p.left (q.0.0, q.1)
paired_tells P Q s (Some left) None h k = λ p q. k p.right (q.0.1.0, sym q.0.1.1 ∙ q.1)
paired_tells P Q s (Some (One l)) (Some (One r)) h k = (
  ((h.0.0, (k.0.0, h.0.1 ∙ sym k.0.1)), h.0.1),
  λ p q. equal_sides p (record { left = l; right = r }) (h.1 p.left (q.0.0, q.1))
      (k.1 p.right (q.0.1.0, sym q.0.1.1 ∙ q.1)),
)
paired_tells P Q s (Some (One l)) (Some Several) h k = (
  record { left = l; right = k.0 },
  record { left = l; right = k.1 },
  ((h.0.0, (k.2.0, h.0.1 ∙ sym k.2.1)), h.0.1),
  ((h.0.0, (k.3.0, h.0.1 ∙ sym k.3.1)), h.0.1),
  λ e. k.4 (ap (λ p. p.right) e),
)
paired_tells P Q s (Some Several) (Some (One r)) h k = (
  record { left = h.0; right = r },
  record { left = h.1; right = r },
  ((h.2.0, (k.0.0, h.2.1 ∙ sym k.0.1)), h.2.1),
  ((h.3.0, (k.0.0, h.3.1 ∙ sym k.0.1)), h.3.1),
  λ e. h.4 (ap (λ p. p.left) e),
)
paired_tells P Q s (Some Several) (Some Several) h k = (
  record { left = h.0; right = k.0 },
  record { left = h.1; right = k.0 },
  ((h.2.0, (k.2.0, h.2.1 ∙ sym k.2.1)), h.2.1),
  ((h.3.0, (k.2.0, h.3.1 ∙ sym k.2.1)), h.3.1),
  λ e. h.4 (ap (λ p. p.left) e),
)

still : (now : Option (Found Sides)) → with_found same_sides (Some Several) now ≡ Some Several
still None = refl
still (Some now) = refl

pairs_at : (P Q : Tree → Type 0) (left right : Entries) (ss : List (List ℕ)) → TableTells left P → TableTells right Q
    → ((p : Sides) → Pair P Q p → Contains ss (sort_of p.left))
    → Tells (sides_found left right ss) (Pair P Q)
pairs_at P Q left right ss h k all =
    tells_at_all same_sides sides_Decides (Pair P Q) (λ p. sort_of p.left)
    (λ s. pair_sides (reading_at left s) (reading_at right s))
    (λ s. paired_tells P Q s (reading_at left s) (reading_at right s) (h s) (k s))
    ss all

pairs_tell : (P Q : Tree → Type 0) (left right : Entries) (found : Option (Found Sides)) → AreFound left right found
    → TableTells left P → TableTells right Q → Tells found (Pair P Q)
pairs_tell P Q left right found (inl e) h k =
    subst (λ x. Tells x (Pair P Q)) (sym e)
    (pairs_at P Q left right (sorts_in left) h k (λ p q. in_sorts P left h p.left q.0))
pairs_tell P Q left right found (inr e) h k =
    subst (λ x. Tells x (Pair P Q)) (sym e)
    (pairs_at P Q left right (sorts_in right) h k
    (λ p q. subst (Contains (sorts_in right)) (sym q.1.1) (in_sorts Q right k p.right q.1.0)))

-- the sides of an equation
pub sides_tell : (fs : List PlainOperator) (vs : Variables) (raw : RawEquation) (right : RawRight)
    (left other : Entries) (found : Option (Found Sides)) → raw.right ≡ Some right
    → AreFound left other found → TableTells left (Reads fs vs raw.left) → TableTells other (Reads fs vs right.term)
    → Tells found (ReadsSides fs vs raw)
sides_tell fs vs raw right left other found e are h k =
    subst (λ o. Tells found (λ p. Reads fs vs raw.left p.left × ReadsRight fs vs o p.left p.right)) (sym e)
    (pairs_tell (Reads fs vs raw.left) (Reads fs vs right.term) left other found are h k)

-- further sorts change nothing where several sides are found
pub several_stay : (left right : Entries) (ss : List (List ℕ))
    → fold (λ before s. with_found same_sides before (pair_sides (reading_at left s) (reading_at right s)))
    (Some Several) ss ≡ Some Several
several_stay left right [] = refl
several_stay left right (s ∷ ss) =
    ap (λ before. fold (λ b z. with_found same_sides b (pair_sides (reading_at left z) (reading_at right z))) before ss)
    (still (pair_sides (reading_at left s) (reading_at right s))) ∙ several_stay left right ss

-- so the first of the sorts are enough
pub first_enough : (left right : Entries) (all before now after : Option (Found Sides)) (s : List ℕ)
    (ss rest : List (List ℕ)) → ss ≡ s ∷ rest → now ≡ pair_sides (reading_at left s) (reading_at right s)
    → after ≡ with_found same_sides before now → after ≡ Some Several
    → fold (λ b z. with_found same_sides b (pair_sides (reading_at left z) (reading_at right z))) before ss ≡ all
    → Some Several ≡ all
first_enough left right all before now after s ss rest first is put several invariant =
    sym (several_stay left right rest)
    ∙ ap (λ x. fold (λ b z. with_found same_sides b (pair_sides (reading_at left z) (reading_at right z))) x rest)
    (sym several ∙ put ∙ ap (with_found same_sides before) is)
    ∙ ap (fold (λ b z. with_found same_sides b (pair_sides (reading_at left z) (reading_at right z))) before)
    (sym first) ∙ invariant

pub formula_of : (P : Tree → Type 0) (found : Option (Found Tree)) → Tells found (λ t. P t × (sort_of t ≡ bool_sort))
    → Tells (formula_found found) (λ p. P p.left × ((sort_of p.left ≡ bool_sort) × (p.right ≡ truth)))
formula_of P None h = λ p q. h p.left (q.0, q.1.0)
formula_of P (Some (One l)) h =
    ((h.0.0, (h.0.1, refl)), λ p q. equal_sides p (record { left = l; right = truth }) (h.1 p.left (q.0, q.1.0)) q.1.1)
formula_of P (Some Several) h = (
  record { left = h.0; right = truth },
  record { left = h.1; right = truth },
  (h.2.0, (h.2.1, refl)),
  (h.3.0, (h.3.1, refl)),
  λ e. h.4 (ap (λ p. p.left) e),
)

-- a formula
pub formula_tells : (fs : List PlainOperator) (vs : Variables) (raw : RawEquation) (left : Entries) → raw.right ≡ None
    → TableTells left (Reads fs vs raw.left)
    → Tells (formula_found (reading_at left bool_sort)) (ReadsSides fs vs raw)
formula_tells fs vs raw left e h =
    subst (λ o. Tells (formula_found (reading_at left bool_sort))
    (λ p. Reads fs vs raw.left p.left × ReadsRight fs vs o p.left p.right)) (sym e)
    (formula_of (Reads fs vs raw.left) (reading_at left bool_sort) (h bool_sort))

-- a lone term, with no wanted sort and with one
pub lone_anywhere : (fs : List PlainOperator) (vs : Variables) (raw : RawEquation) (es : Entries)
    (wanted : Option (List ℕ)) → wanted ≡ None → TableTells es (Reads fs vs raw.left)
    → Tells (found_anywhere es) (ReadsLone fs vs wanted raw)
lone_anywhere fs vs raw es wanted e h =
    subst (λ o. Tells (found_anywhere es) (ReadsLone fs vs o raw)) (sym e)
    (tells_same (Reads fs vs raw.left) (ReadsLone fs vs None raw) (λ t r. (r, tt)) (λ t r. r.0) (found_anywhere es)
    (anywhere_tells (Reads fs vs raw.left) es h))

pub lone_at : (fs : List PlainOperator) (vs : Variables) (raw : RawEquation) (es : Entries) (wanted : Option (List ℕ))
    (s : List ℕ) (found : Option (Found Tree)) → wanted ≡ Some s → found ≡ reading_at es s
    → TableTells es (Reads fs vs raw.left) → Tells found (ReadsLone fs vs wanted raw)
lone_at fs vs raw es wanted s found e f h =
    subst (λ o. Tells found (ReadsLone fs vs o raw)) (sym e)
    (subst (λ x. Tells x (ReadsLone fs vs (Some s) raw)) (sym f) (h s))

-- what is unread in the left side
pub left_unread : (fs : List PlainOperator) (vs : Variables) (refusal : ReadRefusal) (raw : RawEquation)
    → Unread refusal (unread_in fs vs (parts raw.left)) → Unread refusal (first_unread fs vs raw)
left_unread fs vs refusal raw u = unread_first fs vs refusal (parts raw.left) (in_sides parts (right_sides raw.right)) u

-- what is unread in the right side
pub right_unread : (fs : List PlainOperator) (vs : Variables) (refusal : ReadRefusal) (raw : RawEquation)
    (right : RawRight) → raw.right ≡ Some right → unread_in fs vs (parts raw.left) ≡ None
    → Unread refusal (unread_in fs vs (parts right.term)) → Unread refusal (first_unread fs vs raw)
right_unread fs vs refusal raw right e r u =
    subst (Unread refusal) (sym (read_first fs vs (parts raw.left) (in_sides parts (right_sides raw.right)) r))
    (subst (λ o. Unread refusal (unread_in fs vs (in_sides parts (right_sides o)))) (sym e)
    (unread_first fs vs refusal (parts right.term) [] u))

empty_read : (fs : List PlainOperator) (vs : Variables) → unread_in fs vs [] ≡ None
unfolding unread_in
empty_read fs vs = refl

-- all parts of a formula are read
pub formula_read : (fs : List PlainOperator) (vs : Variables) (raw : RawEquation) → raw.right ≡ None
    → unread_in fs vs (parts raw.left) ≡ None → first_unread fs vs raw ≡ None
formula_read fs vs raw e r =
    read_first fs vs (parts raw.left) (in_sides parts (right_sides raw.right)) r
    ∙ ap (λ o. unread_in fs vs (in_sides parts (right_sides o))) e ∙ empty_read fs vs

-- all parts of an equation are read
pub sides_read : (fs : List PlainOperator) (vs : Variables) (raw : RawEquation) (right : RawRight)
    → raw.right ≡ Some right → unread_in fs vs (parts raw.left) ≡ None → unread_in fs vs (parts right.term) ≡ None
    → first_unread fs vs raw ≡ None
sides_read fs vs raw right e r q =
    read_first fs vs (parts raw.left) (in_sides parts (right_sides raw.right)) r
    ∙ ap (λ o. unread_in fs vs (in_sides parts (right_sides o))) e
    ∙ read_first fs vs (parts right.term) [] q ∙ empty_read fs vs
