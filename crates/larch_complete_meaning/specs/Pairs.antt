-- Critical pairs as equations.
use Rattle.std.specs.Prelude.{ℕ, suc, ◌==◌, Bool, true, false, List, [], ◌∷◌, ◌++◌, map, Result, Ok, Err}
use Rattle.larch_pairs.specs.Unify.{Oversize}
use Rattle.larch_pairs_critical.specs.Pairs.{critical_pairs}
use Rattle.larch_pairs_critical.specs.declared.pair.Pair.{Pair}
use Rattle.larch_pairs_critical.specs.declared.pair.Rule.{Rule}
use Rattle.larch_rewrite_meaning.specs.Sides.{Sides}
use Rattle.larch_complete_meaning.specs.Steps.{Step, after}
use Rattle.larch_complete_meaning.specs.declared.answer.CompletionAnswer.TheVariants.{TooLarge}

-- sides as a rule
abbrev pub as_rule : Sides → Rule
as_rule e = record { left = e.left; right = e.right }

-- the equation of a critical pair
abbrev pub as_equation : Pair → Sides
as_equation p = record { left = p.left; right = p.right }

-- the equations of critical pairs, unless a term is too large
abbrev pub as_equations : Result (List Pair) Oversize → Step (List Sides)
as_equations (Ok pairs) = Ok (map as_equation pairs)
as_equations (Err e) = Err TooLarge

-- the critical pairs of the second rule's left side in the first one's; it is told whether both are one rule
abbrev pub pairs_in : Sides → Sides → Bool → Step (List Sides)
pairs_in r q are_one = as_equations (critical_pairs (as_rule r) (as_rule q) are_one)

-- the critical pairs of a new rule, with each rule in order and with itself at the end: first those of its left side in
-- the rule's, right behind them those of the rule's left side in its own
abbrev pub pairs_of_new : List Sides → Sides → Step (List Sides)
pairs_of_new [] new = pairs_in new new true
pairs_of_new (r ∷ rules) new =
    after (pairs_in r new false) (λ in_rule.
    after (pairs_in new r false) (λ in_new.
    after (pairs_of_new rules new) (λ others. Ok (in_rule ++ (in_new ++ others)))))

-- the critical pairs of each of some rules in a rule, by the places of that rule and of the first of these
abbrev pub pairs_from : ℕ → Sides → ℕ → List Sides → List (Step (List Sides))
pairs_from i r j [] = []
pairs_from i r j (q ∷ qs) = pairs_in r q (i == j) ∷ pairs_from i r (suc j) qs

-- the critical pairs of rules in each of some, by the place of the first of these
abbrev pub pairs_in_each : List Sides → ℕ → List Sides → List (Step (List Sides))
pairs_in_each rules i [] = []
pairs_in_each rules i (r ∷ rs) = pairs_from i r 0 rules ++ pairs_in_each rules (suc i) rs

-- the critical pairs of each two of some rules, first rule by first rule and within it second by second
abbrev pub pairs_of_all : List Sides → List (Step (List Sides))
pairs_of_all rules = pairs_in_each rules 0 rules
