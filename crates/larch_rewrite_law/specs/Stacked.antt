-- Terms that wait for the normal form of an argument.
use Rattle.std.specs.Prelude.{◌≡◌, ℕ, List, [], ◌∷◌}
use Rattle.larch_term.specs.Operator.{PlainOperator}
use Rattle.larch_term.specs.Tree.{Tree}
use Rattle.larch_rewrite_meaning.specs.NormalForm.{normal}
use Rattle.larch_rewrite_meaning.specs.Sides.{Sides}
use Rattle.larch_rewrite_law.specs.Levels.{arguments_work}

-- what waits: the term whose normal form is sought, the budget with which that began, and the operator that it has come
-- to, with the normal forms of the arguments before the one that is waited for, and the arguments behind it
pub record Waiting : Type 0 where
  pub start : Tree
  pub budget : ℕ
  pub operator : PlainOperator
  pub done : List Tree
  pub further : List Tree

-- the innermost of what waits does so for the normal form of a term under a budget, each further one for that of the
-- one inside it, and the outermost is a term under a budget, whose normal form is sought
abbrev pub Wait : List Sides → Tree → ℕ → List Waiting → Tree → ℕ → Type 0
Wait rules whole budget [] t b = (t ≡ whole) × (b ≡ budget)
Wait rules whole budget (w ∷ ws) t b =
    (normal rules w.start w.budget ≡ arguments_work rules w.operator w.done (t ∷ w.further) b)
    × Wait rules whole budget ws w.start w.budget
