-- The built-in operators put in turn are all.
use Rattle.std.proofs.Common.{◌≡◌, ℕ, List, ◌++◌, map, ap, ◌∙◌, append_assoc}
use Rattle.larch_term.specs.BuiltIn.{built_in, bool_sort}
use Rattle.larch_term.specs.Operator.{PlainOperator}
use Rattle.larch_term.specs.declared.built_in.BuiltIn.TheVariants.{Equal, Unequal, If}
use Rattle.larch_sorts_known.specs.BuiltIns.{built_ins_at, propositional}

regrouped : {A : Type 0} (old x y z w : List A) → ((old ++ x) ++ y) ++ z ++ w ≡ old ++ (x ++ (y ++ (z ++ w)))
regrouped old x y z w =
    append_assoc ((old ++ x) ++ y) z w ∙ append_assoc (old ++ x) y (z ++ w) ∙ append_assoc old x (y ++ (z ++ w))

pub in_turn : (old a b c d : List PlainOperator) (sorts : List (List ℕ))
    → a ≡ old ++ map (λ o. built_in o bool_sort) propositional → b ≡ a ++ map (built_in Equal) sorts
    → c ≡ b ++ map (built_in Unequal) sorts → d ≡ c ++ map (built_in If) sorts
    → d ≡ old ++ built_ins_at sorts
in_turn old a b c d sorts p q r s =
    s ∙ ap (λ l. l ++ map (built_in If) sorts)
    (r ∙ ap (λ l. l ++ map (built_in Unequal) sorts) (q ∙ ap (λ l. l ++ map (built_in Equal) sorts) p))
    ∙ regrouped old (map (λ o. built_in o bool_sort) propositional) (map (built_in Equal) sorts)
    (map (built_in Unequal) sorts) (map (built_in If) sorts)
