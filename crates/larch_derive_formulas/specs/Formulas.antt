-- How two terms of a sort are equated.
use Rattle.std.specs.Prelude.{if◌then◌else◌, bytes_eq}
use Rattle.larch_term.specs.BuiltIn.{bool_sort, built_in}
use Rattle.larch_term.specs.Operator.{PlainOperator}
use Rattle.larch_term.specs.Sorts.{sort_of}
use Rattle.larch_term.specs.Tree.{Tree}
use Rattle.larch_derive_lines.specs.CalculusFormula.{equality, equivalence}
use Rattle.larch_term.specs.declared.built_in.BuiltIn.TheVariants.{Iff, Equal}

-- that two terms are equal, or at Bool equivalent: the formula of an equation, if neither side is true
abbrev pub equation_formula : Tree → Tree → Tree
equation_formula l r =
    if bytes_eq (sort_of l) bool_sort then equivalence l r else equality (sort_of l) l r

-- the operator that does so
abbrev pub equating : Tree → PlainOperator
equating t =
    if bytes_eq (sort_of t) bool_sort then built_in Iff bool_sort else built_in Equal (sort_of t)
