-- The keys by which a store finds its shared terms.
use Rattle.std.specs.Prelude.{map}
use Rattle.larch_store.specs.Numbered.{Numbered, leaf, branch, number_of, list_of_several}
use Rattle.larch_store.specs.declared.key.Key.{Key}
use Rattle.larch_store.specs.declared.key.Key.TheVariants.{Var, App}

-- a variable is found by its name and sort, an application by its operator and the numbers of its arguments
abbrev pub key_of : Numbered → Key
key_of (leaf k z n s) = Var n s
key_of (branch k z f xs) = App f (map number_of (list_of_several xs))
