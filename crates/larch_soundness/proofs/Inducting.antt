-- The hypotheses of an induction hold of values in a set on which the equation holds.
use Rattle.std.proofs.Common.{◌≡◌, ℕ, suc, inl, inr, Bool, true, cond, List, [], ◌∷◌, map, Contains, bytes_eq, refl}
use Rattle.std.proofs.Common.{sym, ◌∙◌, ap, subst}
use Rattle.std.proofs.lemmas.Slice.Eq.{bytes_eq-Decides}
use Rattle.larch_base.proofs.Bools.{true_or_false}
use Rattle.larch_base.proofs.Members.{contains_none, contains_cases}
use Rattle.larch_base.proofs.Options.{map_cond}
use Rattle.larch_term.specs.Operator.{PlainOperator}
use Rattle.larch_term.specs.Tree.{Tree, var}
use Rattle.larch_term.specs.Statement.{IsStatementOver}
use Rattle.larch_term.specs.Substitution.{instance_of}
use Rattle.larch_term.specs.declared.statement.Statement.{Statement}
use Rattle.larch_term.specs.declared.statement.Statement.TheVariants.{Equation}
use Rattle.larch_calculus.specs.Formula.{constant}
use Rattle.larch_calculus.specs.Generation.{only, equation_at, induction_hypotheses}
use Rattle.larch_models_meaning.specs.Interpretation.{Interpretation, Assignment, value_of, Within, InRange}
use Rattle.larch_models_meaning.specs.Models.{ArgumentsIn, Holds}
use Rattle.larch_models_meaning.specs.Computed.{update}
use Rattle.larch_soundness.proofs.Assignments.{is_variable, Agree}
use Rattle.larch_soundness.proofs.Changed.{Gives}
use Rattle.larch_soundness.proofs.Values.{value_substituted, SameTables, value_same}

-- a term for a variable gives it the term's value
pub only_value : (m : Interpretation) (a : Assignment) (x s : List ℕ) (u t : Tree)
    → value_of m a (instance_of (only x s u) t) ≡ value_of m (update x s (value_of m a u) a) t
only_value m a x s u t =
    value_substituted m a (only x s u) t
    ∙ ap (λ b. value_of m b t) (λ i n r. map_cond (value_of m a) (is_variable x s n r) u (var n r) i)

-- an equation holds if it does with this value for the variable
abbrev pub HoldsAt : Interpretation → List ℕ → List ℕ → Tree → Tree → ℕ → Type 0
HoldsAt m x s l r v = Agree m (update x s v) l r

-- in an interpretation with tables as those of one, the equation holds with a term that has such a value
holds_term : (m n : Interpretation) (fs : List PlainOperator) (x s : List ℕ) (l r u : Tree) (v : ℕ) → SameTables n m fs
    → n.last ≡ m.last → IsStatementOver fs (Equation l r) → ((a : Assignment) → value_of n a u ≡ v)
    → HoldsAt m x s l r v → Holds n (equation_at x s l r u)
holds_term m n fs x s l r u v e f w h k a g =
    only_value n a x s u l
    ∙ ap (λ z. value_of n (update x s z a) l) (h a)
    ∙ value_same n m fs e (update x s v a) l w.0.1
    ∙ k a (subst (λ z. InRange z a) f g)
    ∙ sym (value_same n m fs e (update x s v a) r w.1.1)
    ∙ sym (ap (λ z. value_of n (update x s z a) r) (h a))
    ∙ sym (only_value n a x s u r)

pub hypotheses_hold : (m n : Interpretation) (fs : List PlainOperator) (x s : List ℕ) (l r : Tree) → SameTables n m fs
    → n.last ≡ m.last → IsStatementOver fs (Equation l r) → (p : ℕ → Bool)
    → ((v : ℕ) → p v ≡ true → HoldsAt m x s l r v)
    → (cs : List PlainOperator) (xs : List ℕ) → Gives n cs xs → Within m.last (map (λ c. c.range) cs) xs
    → ArgumentsIn p s (map (λ c. c.range) cs) xs
    → (h : Statement) → Contains (induction_hypotheses x s l r cs) h → Holds n h
hypotheses_hold m n fs x s l r e f w p k [] xs g i d h c = absurd (contains_none h c)
hypotheses_hold m n fs x s l r e f w p k (b ∷ cs) [] g i d h c = absurd i
hypotheses_hold m n fs x s l r e f w p k (b ∷ cs) (v ∷ xs) g i d h c =
    let own = equation_at x s l r (constant b) in
    let hs = induction_hypotheses x s l r cs in
    let rest : Contains hs h → Holds n h =
    λ c. hypotheses_hold m n fs x s l r e f w p k cs xs (λ j q y a o. g (suc j) q y a o) i.1 d.1 h c in
    elim (true_or_false (bytes_eq b.range s)) [
      | inl t ↦
          elim (contains_cases own h hs (subst (λ q. Contains (cond q (own ∷ hs) hs) h) t c)) [
            | inl o ↦
                let at : HoldsAt m x s l r v = k v (d.0 ((bytes_eq-Decides b.range s).0 t)) in
                subst (Holds n) o (holds_term m n fs x s l r (constant b) v e f w (λ a. g 0 b v refl refl) at)
            | inr o ↦ rest o
          ]
      | inr t ↦ rest (subst (λ q. Contains (cond q (own ∷ hs) hs) h) t c)
    ]
