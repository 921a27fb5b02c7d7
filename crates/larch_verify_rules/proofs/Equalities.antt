-- Terms whose equality is true.
use Rattle.std.proofs.Common.{◌≡◌, ℕ, ◌<◌, Bool, true, false, ◌&&◌, if◌then◌else◌, IsTrue, ◌↔◌, length, Some, None}
use Rattle.std.proofs.Common.{sym, ◌∙◌, ap}
use Rattle.larch_term.proofs.Decided.{trees_told}
use Rattle.larch_term.specs.Equality.{same_tree, same_statement}
use Rattle.larch_term.specs.Sorts.{sort_of}
use Rattle.larch_term.specs.Tree.{Tree}
use Rattle.larch_term.specs.Truth.{truth}
use Rattle.larch_term.specs.declared.statement.Statement.TheVariants.{Equation}
use Rattle.larch_calculus.specs.Formula.{equality}
use Rattle.larch_verify_meaning.specs.Rules.{equality_sides}
use Rattle.larch_verify_pool.specs.Pooled.{Pooled, tree_in, Grows, HasTree}
use Rattle.larch_verify_pool.proofs.Front.{grows_trans}
use Rattle.larch_verify_history.specs.Past.{IsEquated, equated_in}
use Rattle.larch_verify_history.specs.declared.stated.Equated.{Equated}
use Rattle.larch_verify_parts.proofs.Numbers.{tree_later, has_tree, has_tree_later}

-- what a comparison with a new number tells of an old one
told_of : (p q : Pooled) (m n : ℕ) (t : Tree) (r : Bool) → Grows p q → m < length p.trees → tree_in q.trees n ≡ t
    → (IsTrue r ↔ (tree_in q.trees m ≡ tree_in q.trees n)) → (IsTrue r ↔ (tree_in p.trees m ≡ t))
told_of p q m n t r g l e h = (λ w. sym (tree_later p q m g l) ∙ h.0 w ∙ e, λ w. h.1 (tree_later p q m g l ∙ w ∙ sym e))

sides_told : (l r s t : Tree) (a b : Bool) → (IsTrue a ↔ (l ≡ equality (sort_of s) s t)) → (IsTrue b ↔ (r ≡ truth))
    → same_statement (Equation l r) (Equation (equality (sort_of s) s t) truth) ≡ (a && b)
unfolding same_statement
sides_told l r s t a b h k = λ i. sym (trees_told l (equality (sort_of s) s t) a h) i && sym (trees_told r truth b k) i

-- the left side is another one
not_equality : (l r s t : Tree) (a : Bool) → (IsTrue a ↔ (l ≡ equality (sort_of s) s t)) → a ≡ false
    → None ≡ equality_sides (Equation l r) s t
unfolding same_statement
not_equality l r s t a h n =
    sym (λ i. if (sym (trees_told l (equality (sort_of s) s t) a h) ∙ n) i
    && same_tree r truth then Some (Equation s t) else None)

-- the right side isn't true
not_true : (l r s t : Tree) (a b : Bool) → (IsTrue a ↔ (l ≡ equality (sort_of s) s t)) → (IsTrue b ↔ (r ≡ truth))
    → a ≡ true → b ≡ false
    → None ≡ equality_sides (Equation l r) s t
not_true l r s t a b h k y n =
    sym (ap (λ c. if c then Some (Equation s t) else None) (sides_told l r s t a b h k ∙ (λ i. y i && n i)))

-- the equality is true
are_equal : (l r s t : Tree) (a b : Bool) → (IsTrue a ↔ (l ≡ equality (sort_of s) s t)) → (IsTrue b ↔ (r ≡ truth))
    → a ≡ true → b ≡ true
    → Some (Equation s t) ≡ equality_sides (Equation l r) s t
are_equal l r s t a b h k y z =
    sym (ap (λ c. if c then Some (Equation s t) else None) (sides_told l r s t a b h k ∙ (λ i. y i && z i)))

-- the equality of two terms, by numbers
abbrev equality_of : Pooled → ℕ → ℕ → Tree
equality_of p m n = equality (sort_of (tree_in p.trees m)) (tree_in p.trees m) (tree_in p.trees n)

-- a comparison with the equality, behind which the pool grew
left_told : (p q r : Pooled) (sides : Equated) (m n e : ℕ) (a : Bool) → Grows p q → Grows q r → IsEquated p sides
    → HasTree q e (equality_of p m n)
    → (IsTrue a ↔ (tree_in r.trees sides.left ≡ tree_in r.trees e))
    → (IsTrue a ↔ (tree_in p.trees sides.left ≡ equality_of p m n))
left_told p q r sides m n e a g h w t k =
    told_of p r sides.left e (equality_of p m n) a (grows_trans p q r g h) w.0
    (has_tree_later q r e (equality_of p m n) h t) k

-- a comparison with true
right_told : (p q r : Pooled) (sides : Equated) (v : ℕ) (b : Bool) → Grows p q → Grows q r → IsEquated p sides
    → HasTree r v truth
    → (IsTrue b ↔ (tree_in r.trees sides.right ≡ tree_in r.trees v))
    → (IsTrue b ↔ (tree_in p.trees sides.right ≡ truth))
right_told p q r sides v b g h w t k =
    told_of p r sides.right v truth b (grows_trans p q r g h) w.1 (has_tree r v truth t) k

-- what the rule says of terms by numbers, in each case
pub left_differs : (p q r : Pooled) (sides : Equated) (m n e : ℕ) (a : Bool) → Grows p q → Grows q r → IsEquated p sides
    → HasTree q e (equality_of p m n)
    → (IsTrue a ↔ (tree_in r.trees sides.left ≡ tree_in r.trees e)) → a ≡ false
    → None ≡ equality_sides (equated_in p sides) (tree_in p.trees m) (tree_in p.trees n)
left_differs p q r sides m n e a g h w t k no_ =
    not_equality (tree_in p.trees sides.left) (tree_in p.trees sides.right) (tree_in p.trees m) (tree_in p.trees n) a
    (left_told p q r sides m n e a g h w t k) no_

pub right_differs : (p q r : Pooled) (sides : Equated) (m n e v : ℕ) (a b : Bool) → Grows p q → Grows q r
    → IsEquated p sides → HasTree q e (equality_of p m n)
    → HasTree r v truth → (IsTrue a ↔ (tree_in r.trees sides.left ≡ tree_in r.trees e))
    → (IsTrue b ↔ (tree_in r.trees sides.right ≡ tree_in r.trees v))
    → a ≡ true → b ≡ false → None ≡ equality_sides (equated_in p sides) (tree_in p.trees m) (tree_in p.trees n)
right_differs p q r sides m n e v a b g h w t u k l y z =
    not_true (tree_in p.trees sides.left) (tree_in p.trees sides.right) (tree_in p.trees m) (tree_in p.trees n) a b
    (left_told p q r sides m n e a g h w t k)
    (right_told p q r sides v b g h w u l) y z

pub both_agree : (p q r : Pooled) (sides : Equated) (m n e v : ℕ) (a b : Bool) → Grows p q → Grows q r
    → IsEquated p sides → HasTree q e (equality_of p m n)
    → HasTree r v truth → (IsTrue a ↔ (tree_in r.trees sides.left ≡ tree_in r.trees e))
    → (IsTrue b ↔ (tree_in r.trees sides.right ≡ tree_in r.trees v))
    → a ≡ true → b ≡ true → m < length p.trees → n < length p.trees
    → Some (Equation (tree_in r.trees m) (tree_in r.trees n))
    ≡ equality_sides (equated_in p sides) (tree_in p.trees m) (tree_in p.trees n)
both_agree p q r sides m n e v a b g h w t u k l y z i j =
    (λ x. Some (Equation (tree_later p r m (grows_trans p q r g h) i x) (tree_later p r n (grows_trans p q r g h) j x)))
    ∙ are_equal (tree_in p.trees sides.left) (tree_in p.trees sides.right) (tree_in p.trees m) (tree_in p.trees n) a b
    (left_told p q r sides m n e a g h w t k)
    (right_told p q r sides v b g h w u l) y z
