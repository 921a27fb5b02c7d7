-- A rule behind others.
use Rattle.std.specs.Prelude.{◌≡◌, ◌<◌, ◌≤◌, ◌⊎◌, ◌++◌, ◌∷◌, [], ℕ, List}
use Rattle.std.proofs.Common.{inl, inr, ap, arith, ◌∙◌}
use Rattle.std.proofs.lemmas.List.{map-append}
use Rattle.larch_base.specs.declared.fact_name.FactName.{FactName}
use Rattle.larch_rewrite.specs.RuleSet.{PlainRule, rule_by, sides_in, sides_of_plain}
use Rattle.larch_store.specs.Stored.{most_nodes}
use Rattle.larch_term.specs.Tree.{Tree, nodes}

pub rules_added : (old new : List PlainRule) (name : FactName) (l r : Tree) (n : ℕ)
    → new ≡ old ++ rule_by name l r n ∷ []
    → sides_in new ≡ sides_in old ++ record { left = l; right = r } ∷ []
rules_added old new name l r n e = ap sides_in e ∙ map-append sides_of_plain old (rule_by name l r n ∷ [])

-- small sides are not refused
pub not_refused : (l r : Tree) → (nodes l ≤ most_nodes) × (nodes r ≤ most_nodes)
    → (most_nodes < nodes l) ⊎ (most_nodes < nodes r) → ⊥
not_refused l r h (inl k) = let m = h.0 in omega (arith, m, k)
not_refused l r h (inr k) = let m = h.1 in omega (arith, m, k)
