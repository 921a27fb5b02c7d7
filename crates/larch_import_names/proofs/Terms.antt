-- Renamed arguments as lists.
use Rattle.std.proofs.Common.{◌≡◌, List, [], ◌∷◌, map, refl, sym, ◌∙◌, ap}
use Rattle.larch_term.specs.Operator.{PlainOperator}
use Rattle.larch_term.specs.Tree.{Tree, app, more, forest_of}
use Rattle.larch_renaming.specs.Renaming as maps
use Rattle.larch_renaming.specs.Renaming.{rename_tree, renamed_all}
use Rattle.larch_import_names.specs.Names.{operator_by, renaming, sort_or}
use Rattle.larch_import_names.specs.declared.pairs.Renaming.{Renaming}

pub renamed_all_forest : (r : maps.Renaming) (ts : List Tree)
    → renamed_all r (forest_of ts) ≡ forest_of (map (rename_tree r) ts)
renamed_all_forest r [] = refl
renamed_all_forest r (t ∷ ts) = ap (more (rename_tree r t)) (renamed_all_forest r ts)

pub renamed_app : (by : Renaming) (t : Tree) (f g : PlainOperator) (ts us : List Tree) → app f (forest_of ts) ≡ t
    → g ≡ operator_by (sort_or (λ s. s) by) by f → us ≡ map (rename_tree (renaming by)) ts
    → app g (forest_of us) ≡ rename_tree (renaming by) t
renamed_app by t f g ts us is e h =
    (λ i. app (e i) (forest_of (h i)))
    ∙ ap (app (operator_by (sort_or (λ s. s) by) by f)) (sym (renamed_all_forest (renaming by) ts))
    ∙ ap (rename_tree (renaming by)) is
