-- What contracts see of a shared term of the code.
use Rattle.std.specs.Prelude.{ℕ}
use Rattle.larch_store.specs.Numbered.{Numbered, leaf, branch, several}
use Rattle.larch_store.specs.declared.shared.Kept.{Kept}
use Rattle.larch_store.specs.declared.shared.SharedNode.{SharedNode}
use Rattle.larch_store.specs.declared.shared.SharedNode.TheVariants.{Variable, Application}

-- a variable or an application, with a number and a size
abbrev pub view_shared : ℕ → ℕ → SharedNode → Numbered
view_shared k z (Variable n s) = leaf k z n s
view_shared k z (Application f xs) = branch k z f (several xs)

-- what is kept of it
abbrev pub view_kept : Kept → Numbered
view_kept kept = view_shared kept.number kept.size kept.node
