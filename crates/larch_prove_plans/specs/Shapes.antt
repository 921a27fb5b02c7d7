-- Terms that are an operator with two arguments.
use Rattle.std.specs.Prelude.{if◌then◌else◌, Bool, Option, Some, None}
use Rattle.larch_term.specs.Operator.{PlainOperator}
use Rattle.larch_term.specs.Tree.{Tree}
use Rattle.larch_prove_plans.specs.declared.shapes.BinaryTerm.{BinaryTerm}

-- the arguments
abbrev pub parts_of : BinaryTerm → Tree × Tree
parts_of p = (p.left.now, p.right.now)

-- the arguments of a pair whose operator passes a test
abbrev pub pair_if : (PlainOperator → Bool) → Option BinaryTerm → Option (Tree × Tree)
pair_if test None = None
pair_if test (Some p) = if test p.operator.now then Some (parts_of p) else None
