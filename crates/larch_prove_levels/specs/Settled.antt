-- When a level is proved, by its facts and its goal.
use Rattle.std.specs.Prelude.{Bool, ◌||◌}
use Rattle.larch_prove_boxes.specs.ProveMeaningFacts.{Facts}
use Rattle.larch_term.specs.Equality.{same_tree}
use Rattle.larch_term.specs.Tree.{Tree}
use Rattle.larch_term.specs.Truth.{truth}

-- the goal is true, or the facts contradict each other
abbrev pub is_settled_by : Facts → Tree → Bool
is_settled_by facts goal = same_tree goal truth || facts.contradictory
