-- What is shown by induction, by numbers.
use Rattle.std.specs.Prelude.{ℕ, if◌then◌else◌, List, bytes_eq, Option, Some, None}
use Rattle.larch_term.specs.Operator.{PlainOperator}
use Rattle.larch_term.specs.Tree.{Tree, var}
use Rattle.larch_term.specs.declared.statement.Statement.{Statement}
use Rattle.larch_term.specs.declared.statement.Statement.TheVariants.{Equation, Generated, Partitioned}
use Rattle.larch_calculus.specs.Generation.{equation_at, induction_hypotheses}
use Rattle.larch_certificate.specs.declared.line.BoxPart.{BoxPart}
use Rattle.larch_verify_meaning.specs.Events.{operators_from}
use Rattle.larch_verify_pool.specs.Pooled.{Pooled, tree_in, HasTree}
use Rattle.larch_verify_history.specs.Past.{IsEquated}
use Rattle.larch_verify_box_rules.specs.declared.showing.Inductive.{Inductive}

-- the numbers are those of the variable and of an equation's sides
abbrev pub IsInductive : Pooled → Inductive → Type 0
IsInductive p i = HasTree p i.number (var i.variable.now.name i.variable.now.sort) × IsEquated p i.sides

-- the equation with a term for the variable
abbrev pub equation_with : Pooled → Inductive → Tree → Statement
equation_with p i t =
    equation_at i.variable.now.name i.variable.now.sort (tree_in p.trees i.sides.left) (tree_in p.trees i.sides.right) t

-- the equation with what each of these parts of a box makes, the first of which has a number, if it has the variable's
-- sort
abbrev pub hypotheses_from : Pooled → Inductive → ℕ → ℕ → List BoxPart → List Statement
hypotheses_from p i b k ps =
    induction_hypotheses i.variable.now.name i.variable.now.sort (tree_in p.trees i.sides.left)
    (tree_in p.trees i.sides.right) (operators_from b k ps)

-- the operators that a statement says generate a sort
abbrev pub generators_of : List ℕ → Statement → Option (List PlainOperator)
generators_of s (Generated z fs) = if bytes_eq z s then Some fs else None
generators_of s (Equation l r) = None
generators_of s (Partitioned z fs) = None
