use Rattle.std.specs.Prelude.{◌≡◌, List, [], ◌∷◌, map, refl}
use Rattle.std.specs.List.{flat_map}
use Rattle.std.proofs.Common.{ap, ap₂}
use Rattle.larch_prove_meaning.specs.RewriteMeaningSides.{Sides, sides_of}
use Rattle.larch_prove_meaning.specs.Plans as defined
use Rattle.larch_prove_plans.specs.Planning.{equate, plain_subgoal, subgoal_of}
use Rattle.larch_prove_plans.proofs.laws.subgoals_are_plain.Goals as goal

sides_again : (es : List Sides) → flat_map sides_of (map equate es) ≡ es
sides_again [] = refl
sides_again (e ∷ es) = ap (λ ds. e ∷ ds) (sides_again es)

same_again : (s : defined.Subgoal) → plain_subgoal (subgoal_of s) ≡ s
same_again s =
    ap (λ es. record { constants = s.constants; hypotheses = es; goal = s.goal }) (sides_again s.hypotheses)

all_again : (ss : List defined.Subgoal) → map plain_subgoal (map subgoal_of ss) ≡ ss
all_again [] = refl
all_again (s ∷ ss) = ap₂ (λ t ts. t ∷ ts) (same_again s) (all_again ss)

pub returns : goal.returns
returns c = record { one = same_again; all = all_again }
