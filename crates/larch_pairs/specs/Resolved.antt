-- Bindings that are made one after another.
use Rattle.std.specs.Prelude.{List, [], ◌∷◌}
use Rattle.larch_term.specs.Substitution.{instance_of}
use Rattle.larch_term.specs.declared.substitution.Entry.{Entry}

-- the bindings with all later ones put into their terms
abbrev pub resolve : List Entry → List Entry
resolve [] = []
resolve (b ∷ bs) = record { name = b.name; sort = b.sort; term = instance_of (resolve bs) b.term } ∷ resolve bs
