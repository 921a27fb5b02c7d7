-- The boxes that terms name whose look is still to come.
use Rattle.std.specs.Prelude.{ℕ, ◌+◌, ◌*◌, List, [], ◌∷◌, ◌++◌, flat_map}
use Rattle.larch_certificate.specs.Coded.{coded_nodes_all, coded_forest_of}
use Rattle.larch_trim_meaning.specs.Needed.{boxes_in}
use Rattle.larch_trim.specs.declared.names.Rest.{Rest}

-- the boxes that terms which wait name, list by list
abbrev pub boxes_to_come : List Rest → List ℕ
boxes_to_come [] = []
boxes_to_come (r ∷ k) = flat_map boxes_in r.terms.now ++ boxes_to_come k

-- a bound for how many steps are to come
abbrev pub steps_to_come : List Rest → ℕ
steps_to_come [] = 0
steps_to_come (r ∷ k) = 1 + 2 * coded_nodes_all (coded_forest_of r.terms.now) + steps_to_come k
