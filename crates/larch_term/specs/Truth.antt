-- The constant true, as a term, and the test for it.
use Rattle.std.specs.Prelude.{◌==◌, ◌&&◌, Bool, false, length, codes, bytes_eq}
use Rattle.larch_term.specs.BuiltIn.{bool_sort, built_in}
use Rattle.larch_term.specs.Operator.{PlainOperator, name_bytes}
use Rattle.larch_term.specs.Tree.{Tree, var, app, none, more}
use Rattle.larch_term.specs.declared.built_in.BuiltIn.TheVariants.{True}

-- the built-in constant true
abbrev pub truth : Tree
truth = app (built_in True bool_sort) none

-- whether an operator is the built-in constant true
abbrev pub is_true : PlainOperator → Bool
is_true f = bytes_eq (name_bytes f.name) (codes "true") && ((length f.domain == 0) && bytes_eq f.range bool_sort)

-- whether a term is the built-in constant true
abbrev pub is_truth : Tree → Bool
is_truth (var n s) = false
is_truth (app f none) = is_true f
is_truth (app f (more t ts)) = false
