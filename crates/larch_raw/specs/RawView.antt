-- What contracts see of a term of the code.
use Rattle.larch_raw.specs.RawTree.{RawTree, apply, qualified, raw_forest}
use Rattle.larch_raw.specs.declared.term.RawNode.{RawNode}
use Rattle.larch_raw.specs.declared.term.RawNode.TheVariants.{Apply, Qualified}

-- an application, or a qualified term
abbrev pub view_node : RawNode → RawTree
view_node (Apply n ts p) = apply n (raw_forest ts) p
view_node (Qualified t w p) = qualified t.value w p
