-- Renamed arguments as lists.
use Rattle.std.proofs.Common.{◌≡◌, List, [], ◌∷◌, map, refl, ap}
use Rattle.larch_term.specs.Tree.{Tree, more, forest_of}
use Rattle.larch_renaming.specs.Renaming.{Renaming, rename_tree, renamed_all}

pub renamed_all_forest : (r : Renaming) (ts : List Tree)
    → renamed_all r (forest_of ts) ≡ forest_of (map (rename_tree r) ts)
renamed_all_forest r [] = refl
renamed_all_forest r (t ∷ ts) = ap (more (rename_tree r t)) (renamed_all_forest r ts)
