-- A round of completion: an equation that waited makes a rule, unless the rules decide it already.
use Rattle.std.specs.Prelude.{ℕ, true, false, if◌then◌else◌, List, [], ◌∷◌, ◌++◌, Option, Some, None, Ok, Err}
use Rattle.larch_order.specs.Greater.{greater}
use Rattle.larch_order.specs.declared.precedence.Ranked.{Ranked}
use Rattle.larch_term.specs.Equality.{same_tree}
use Rattle.larch_term.specs.declared.statement.Statement.TheVariants.{Equation}
use Rattle.larch_rewrite_meaning.specs.NormalForm.{normal}
use Rattle.larch_rewrite_meaning.specs.Sides.{Sides, flip}
use Rattle.larch_rewrite_meaning.specs.Work.{Work, Made, then_work}
use Rattle.larch_complete_meaning.specs.Steps.{Step, after, unless_event}
use Rattle.larch_complete_meaning.specs.declared.answer.CompletionAnswer.TheVariants.{Unoriented}

-- what a completion works with: the precedence by which rules are oriented, the budget for the two sides of an equation
-- together, and the theory's equations
pub record Task : Type 0 where
  pub ranks : List Ranked
  pub budget : ℕ
  pub equations : List Sides

-- how far it has come: the rules, in order, and the equations that wait
pub record Stage : Type 0 where
  pub rules : List Sides
  pub waiting : List Sides

-- both sides in normal form under one budget, the left one first
abbrev pub normal_sides : List Sides → Sides → ℕ → Work Sides
normal_sides rules e b =
    then_work (normal rules e.left b) (λ l c.
    then_work (normal rules e.right c) (λ r d. Made (record { left = l; right = r }) d))

-- an equation with both sides in normal form
abbrev pub reduce : Task → List Sides → Sides → Step Sides
reduce task rules e = unless_event (normal_sides rules e task.budget)

-- the rule that an equation makes, from its greater side to the other one
abbrev pub orient : List Ranked → Sides → Step Sides
orient ranks e =
    if greater ranks e.left e.right then Ok e else
    if greater ranks e.right e.left then Ok (flip e) else
    Err (Unoriented (Equation e.left e.right))

-- the rule that an equation makes, which waited; none where the rules give both sides one normal form
abbrev pub settle : Task → List Sides → Sides → Step (Option Sides)
settle task rules e = after (reduce task rules e) (λ found. elim (same_tree found.left found.right) [
  | true ↦ Ok None
  | false ↦ after (orient task.ranks found) (λ rule. Ok (Some rule))
])

-- a stage with a rule behind the others
abbrev pub with_rule : Stage → Sides → Stage
with_rule stage rule = record stage { rules = stage.rules ++ rule ∷ [] }

-- a stage in which more equations wait, behind the others
abbrev pub with_waiting : Stage → List Sides → Stage
with_waiting stage es = record stage { waiting = stage.waiting ++ es }
