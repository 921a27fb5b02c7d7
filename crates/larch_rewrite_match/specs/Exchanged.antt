-- Equalities with their sides exchanged.
use Rattle.std.specs.Prelude.{if◌then◌else◌, Option, Some, None}
use Rattle.larch_term.specs.Tree.{Tree, Forest, var, app, none, more}
use Rattle.larch_term.specs.Operator.{PlainOperator}
use Rattle.larch_term.specs.BuiltIn.{is_built_in_as}
use Rattle.larch_term.specs.declared.built_in.BuiltIn.TheVariants.{Equal}

-- an equality of two arguments, with these exchanged
abbrev pub turned_arguments : PlainOperator → Forest → Option Tree
turned_arguments f none = None
turned_arguments f (more s none) = None
turned_arguments f (more s (more t none)) = if is_built_in_as f Equal then Some (app f (more t (more s none))) else None
turned_arguments f (more s (more t (more u us))) = None

-- an equality with its sides exchanged; other terms have no such form
abbrev pub exchange_equality : Tree → Option Tree
exchange_equality (var n s) = None
exchange_equality (app f ts) = turned_arguments f ts
