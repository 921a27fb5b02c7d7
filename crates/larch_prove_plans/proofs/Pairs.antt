-- Equalities.
use Rattle.std.specs.Prelude.{◌≡◌, ◌-◌, ℕ, false, List, [], ◌∷◌, length, None, Some, refl}
use Rattle.std.specs.Prelude.{slice_get}
use Rattle.std.proofs.Common.{inl, inr, ap, sym, ◌∙◌, arith}
use Rattle.std.proofs.lemmas.Option.{slice_get-get_or}
use Rattle.larch_base.proofs.Bools.{true_or_false}
use Rattle.larch_term.specs.BuiltIn.{built_in, is_built_in_as}
use Rattle.larch_term.specs.Operator.{PlainOperator}
use Rattle.larch_term.specs.OperatorKey.{operator_Decides}
use Rattle.larch_term.specs.declared.built_in.BuiltIn.TheVariants.{Equal}

none_two : {a b : List ℕ} → [] ≡ a ∷ b ∷ [] → ⊥
none_two e = cc

none_some : {x : List ℕ} → None ≡ Some x → ⊥
none_some e = cc

-- a list without a last element is empty
empty : (d : List (List ℕ)) → None ≡ slice_get d (length d - 1) → d ≡ []
empty [] e = refl
empty (x ∷ xs) e =
    absurd (none_some (e ∙ slice_get-get_or (x ∷ xs) (length (x ∷ xs) - 1) x (omega arith)))

-- an operator without a domain is no equality
pub no_equality : (f : PlainOperator) → None ≡ slice_get f.domain (length f.domain - 1) → false ≡ is_built_in_as f Equal
no_equality f e = elim (true_or_false (is_built_in_as f Equal)) [
  | inl p ↦
      absurd (none_two (sym (empty f.domain e) ∙ ap (λ g. g.domain) ((operator_Decides f (built_in Equal _)).0 p)))
  | inr q ↦ sym q
]
