-- What contracts see of a reading of the code.
use Rattle.larch_term.specs.Tree.{Tree, var, app, forest_of}
use Rattle.larch_sorts_signature.specs.declared.reading.Node.{Node}
use Rattle.larch_sorts_signature.specs.declared.reading.Node.TheVariants.{Var, App}

-- a variable or an application
abbrev pub view_node : Node → Tree
view_node (Var n s) = var n s
view_node (App f ts) = app f (forest_of ts.items)
