-- The operators of each name.
use Rattle.std.proofs.Common.{◌≡◌, ℕ, ◌⊎◌, inl, inr, Bool, true, false, cond, List, [], ◌∷◌, Contains, Some, bytes_eq}
use Rattle.std.proofs.Common.{map, refl, sym, ◌∙◌, ap, subst}
use Rattle.std.specs.Map.{lookup}
use Rattle.std.proofs.lemmas.Slice.Eq.{bytes_eq-Decides}
use Rattle.larch_base.proofs.Members.{contains_here, contains_later, contains_cases}
use Rattle.larch_term.specs.Operator.{PlainOperator}
use Rattle.larch_sorts_meaning.specs.Signature.{kept, kept_under}

nothing_here : (e : List ℕ × List PlainOperator) (es : List (List ℕ × List PlainOperator)) (n : List ℕ) (b : Bool)
    → bytes_eq n e.0 ≡ b → Contains (map (λ e. e.0) es) n ⊎ (kept_under es n ≡ [])
    → Contains (map (λ e. e.0) (e ∷ es)) n ⊎ (kept (cond b (Some e.1) (lookup (bytes_eq n) es)) ≡ [])
nothing_here e es n true q h =
    inl (subst (Contains (map (λ e. e.0) (e ∷ es))) (sym ((bytes_eq-Decides n e.0).0 q))
    (contains_here e.0 (map (λ e. e.0) es)))
nothing_here e es n false q (inl c) = inl (contains_later e.0 n (map (λ e. e.0) es) c)
nothing_here e es n false q (inr k) = inr k

-- a name is among those of the entries, or nothing is kept under it
pub named_or_nothing : (es : List (List ℕ × List PlainOperator)) (n : List ℕ)
    → Contains (map (λ e. e.0) es) n ⊎ (kept_under es n ≡ [])
named_or_nothing [] n = inr refl
named_or_nothing (e ∷ es) n = nothing_here e es n (bytes_eq n e.0) refl (named_or_nothing es n)

module _ (index new named : List (List ℕ × List PlainOperator)) (name : List ℕ) (rest : List (List ℕ))
    (ops : List PlainOperator) (is : ops ≡ kept_under named name)
    (put : (q : List ℕ) → lookup (bytes_eq q) new ≡ cond (bytes_eq name q) (Some ops) (lookup (bytes_eq q) index)) where
  step_by : (n : List ℕ) (b : Bool) → bytes_eq name n ≡ b
      → Contains (name ∷ rest) n ⊎ (kept_under index n ≡ kept_under named n)
      → Contains rest n ⊎ (kept_under new n ≡ kept_under named n)
  step_by n true q h =
      inr (ap kept (put n) ∙ ap (λ b. kept (cond b (Some ops) (lookup (bytes_eq n) index))) q ∙ is
      ∙ ap (kept_under named) ((bytes_eq-Decides name n).0 q))
  step_by n false q (inl c) =
      elim (contains_cases name n rest c)
      [ inl e ↦ absurd (let w : bytes_eq name n ≡ true = (bytes_eq-Decides name n).1 e in cc) | inr d ↦ inl d ]
  step_by n false q (inr e) =
      inr (ap kept (put n) ∙ ap (λ b. kept (cond b (Some ops) (lookup (bytes_eq n) index))) q ∙ e)

  -- one name less is left
  pub one_kept : (n : List ℕ) → Contains (name ∷ rest) n ⊎ (kept_under index n ≡ kept_under named n)
      → Contains rest n ⊎ (kept_under new n ≡ kept_under named n)
  one_kept n h = step_by n (bytes_eq name n) refl h
