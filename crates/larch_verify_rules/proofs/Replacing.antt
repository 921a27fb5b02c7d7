-- One side of an equation in the place of the other.
use Rattle.std.proofs.Common.{◌≡◌, ℕ, Bool, true, false, if◌then◌else◌, IsTrue, ◌↔◌, List, Option, Some, None}
use Rattle.std.proofs.Common.{refl, sym, ◌∙◌, ap}
use Rattle.std.specs.Option.{option_and_then, option_map_or}
use Rattle.larch_term.proofs.Decided.{trees_told}
use Rattle.larch_term.specs.Equality.{same_tree}
use Rattle.larch_term.specs.Place.{at, put}
use Rattle.larch_term.specs.Tree.{Tree}
use Rattle.larch_term.specs.declared.statement.Statement.{Statement}
use Rattle.larch_term.specs.declared.statement.Statement.TheVariants.{Equation, Generated, Partitioned}
use Rattle.larch_verify_meaning.specs.BoxRules.{equation_alone}
use Rattle.larch_verify_meaning.specs.Rules.{stands_at, replace_right}
use Rattle.larch_verify_parts.proofs.Alone.{OfEquations, by_equation, by_nothing}

stands_told : (t u x : Tree) (p : List ℕ) (r : Bool) → Some x ≡ at t p → (IsTrue r ↔ (x ≡ u)) → stands_at t p u ≡ r
stands_told t u x p r e h = ap (λ o. option_map_or (λ v. same_tree v u) o false) (sym e) ∙ sym (trees_told x u r h)

pub replaced_not : (s t u v x : Tree) (p : List ℕ) (r : Bool) → Some x ≡ at t p → (IsTrue r ↔ (x ≡ u)) → r ≡ false
    → None ≡ replace_right p (Equation s t) (Equation u v)
replaced_not s t u v x p r e h n =
    ap (λ b. if b then Some (Equation s (put t p v)) else None) (sym (stands_told t u x p r e h ∙ n))

pub replaced_yes : (s t u v x : Tree) (p : List ℕ) (r : Bool) → Some x ≡ at t p → (IsTrue r ↔ (x ≡ u)) → r ≡ true
    → Some (Equation s (put t p v)) ≡ replace_right p (Equation s t) (Equation u v)
replaced_yes s t u v x p r e h n =
    ap (λ b. if b then Some (Equation s (put t p v)) else None) (sym (stands_told t u x p r e h ∙ n))

nothing_after : {X Y : Type 0} (f : X → Option Y) (o : Option X) → ((x : X) → f x ≡ None) → option_and_then f o ≡ None
nothing_after f None h = refl
nothing_after f (Some x) h = h x

of_equations : (p : List ℕ) (o : Option Statement) → OfEquations (λ e. option_and_then (replace_right p e) o)
of_equations p o = record {
  generated = λ s fs. nothing_after (replace_right p (Generated s fs)) o (λ e. refl);
  partitioned = λ s fs. nothing_after (replace_right p (Partitioned s fs)) o (λ e. refl);
}

-- the first line says no equation
pub first_nothing : (p : List ℕ) (o q : Option Statement) → None ≡ option_and_then equation_alone o
    → None ≡ option_and_then (λ e. option_and_then (replace_right p e) q) o
first_nothing p o q e = by_nothing (λ e. option_and_then (replace_right p e) q) (of_equations p q) o e

-- nor does the second
pub second_nothing : (p : List ℕ) (o q : Option Statement) (l r : Tree)
    → Some (Equation l r) ≡ option_and_then equation_alone o
    → None ≡ option_and_then equation_alone q → None ≡ option_and_then (λ e. option_and_then (replace_right p e) q) o
second_nothing p o q l r e f =
    by_equation (λ e. option_and_then (replace_right p e) q) (of_equations p q) o (Equation l r) None e
    (by_nothing (replace_right p (Equation l r)) (record { generated = λ s fs. refl; partitioned = λ s fs. refl }) q f)
