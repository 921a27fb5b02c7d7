-- What a term reads as at one sort, if that is one thing.
use Rattle.std.specs.Prelude.{List, None, Option, Some}
use Rattle.larch_term.specs.Operator.{PlainOperator}
use Rattle.larch_term.specs.Tree.{Tree, app, forest_of}
use Rattle.larch_sorts_signature.specs.SortsMeaningFoundFound.{Found}
use Rattle.larch_sorts_signature.specs.SortsMeaningFoundFound.TheVariants.{One, Several}

-- the one thing that was found, if there is one
abbrev pub the_one : Option (Found Tree) → Option Tree
the_one None = None
the_one (Some (One t)) = Some t
the_one (Some Several) = None

-- an operator with the arguments that were found, if they were
abbrev pub application_of : PlainOperator → Option (List Tree) → Option Tree
application_of f None = None
application_of f (Some ts) = Some (app f (forest_of ts))
