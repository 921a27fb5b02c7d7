-- A theory that has a box's constant as its own, and a certificate that takes it for the box's.
use Rattle.std.specs.Prelude.{false, List, [], ◌∷◌, codes}
use Rattle.larch_term.specs.declared.statement.Statement.TheVariants.{Equation}
use Rattle.larch_term.specs.declared.statement.Theory.{Theory}
use Rattle.larch_term.specs.Operator.{PlainOperator}
use Rattle.larch_calculus.specs.Formula.{constant}
use Rattle.larch_certificate.specs.declared.line.Line.{Line}
use Rattle.larch_certificate.specs.declared.line.Line.TheVariants.{Axiom, BoxLine, Done, Fresh}
use Rattle.larch_verify_meaning.specs.Events.{box_constant}
use Rattle.larch_soundness.specs.Counterexamples.{sort_n, constant_b}

-- the constant that a box of line 1 has first
abbrev pub first_constant : PlainOperator
first_constant = box_constant 1 1 sort_n

-- it equals b
abbrev pub with_boxed : Theory
with_boxed = record {
  operators = first_constant ∷ constant_b ∷ [];
  statements = Equation (constant first_constant) (constant constant_b) ∷ [];
}

-- in a box with a constant the theory's statement, and then x for the constant
abbrev pub freed_own : List Line
freed_own =
    BoxLine (record { sort = sort_n; predicate = false } ∷ []) [] ∷
    Axiom 1 ∷
    Done ∷
    Fresh 1 (record { name = codes "x"; sort = sort_n } ∷ []) ∷
    []
