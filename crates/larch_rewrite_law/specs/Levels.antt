-- Normal forms, one argument after the other: what work is left in the midst of a term.
use Rattle.std.specs.Prelude.{ℕ, List, [], ◌∷◌, ◌++◌}
use Rattle.larch_term.specs.Operator.{PlainOperator}
use Rattle.larch_term.specs.Tree.{Tree, app, forest_of}
use Rattle.larch_rewrite_meaning.specs.NormalForm.{Onward, at_root, normal}
use Rattle.larch_rewrite_meaning.specs.Sides.{Sides}
use Rattle.larch_rewrite_meaning.specs.Work.{Work, then_work}

-- an application goes on with the normal form of what it makes
abbrev pub onward : List Sides → Onward
onward rules = λ u c. normal rules u c

-- the work at the root of a term whose arguments are normal
abbrev pub root_work : List Sides → Tree → ℕ → Work Tree
root_work rules t b = at_root (onward rules) rules t b

-- the work on an operator's term where some arguments are normal and others aren't yet: those are normalised from
-- left to right, and then the root
abbrev pub arguments_work : List Sides → PlainOperator → List Tree → List Tree → ℕ → Work Tree
arguments_work rules f done [] b = root_work rules (app f (forest_of done)) b
arguments_work rules f done (t ∷ ts) b =
    then_work (normal rules t b) (λ u r. arguments_work rules f (done ++ u ∷ []) ts r)
