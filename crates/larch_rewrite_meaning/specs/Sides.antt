-- The two sides of an equation or a rule.
use Rattle.std.specs.Prelude.{List, [], ◌∷◌}
use Rattle.larch_term.specs.Operator.{PlainOperator}
use Rattle.larch_term.specs.Statement.{IsStatementOver}
use Rattle.larch_term.specs.Tree.{Tree}
use Rattle.larch_term.specs.Substitution.{instance_of}
use Rattle.larch_term.specs.declared.statement.Statement.{Statement}
use Rattle.larch_term.specs.declared.statement.Statement.TheVariants.{Equation, Generated, Partitioned}
use Rattle.larch_term.specs.declared.substitution.Entry.{Entry}

-- a left side and a right side
pub record Sides : Type 0 where
  pub left : Tree
  pub right : Tree

-- both sides under a substitution
abbrev pub sides_under : List Entry → Sides → Sides
sides_under es e = record { left = instance_of es e.left; right = instance_of es e.right }

-- the sides with their places exchanged
abbrev pub flip : Sides → Sides
flip e = record { left = e.right; right = e.left }

-- the sides of a statement, where it is an equation
abbrev pub sides_of : Statement → List Sides
sides_of (Equation l r) = record { left = l; right = r } ∷ []
sides_of (Generated s fs) = []
sides_of (Partitioned s fs) = []

-- the sides are well sorted terms of one sort over operators
abbrev pub AreSidesOver : List PlainOperator → Sides → Type 0
AreSidesOver fs e = IsStatementOver fs (Equation e.left e.right)
