-- Writing a term comes nearer to its end.
use Rattle.std.proofs.Common.{◌≡◌, ℕ, ◌+◌, ◌-◌, ◌*◌, ◌<◌, ◌≤◌, List, [], ◌∷◌, length, take, drop, get_or, refl, sym, ap}
use Rattle.std.proofs.Common.{arith}
use Rattle.std.proofs.lemmas.List.{take_rest}
use Rattle.larch_certificate.specs.Coded.{CodedTree, CodedForest, coded_var, coded_app, no_terms, term_then}
use Rattle.larch_certificate.specs.Coded.{coded_forest_of, coded_nodes, coded_nodes_all}

pub some_nodes : (t : CodedTree) → 1 ≤ coded_nodes t
some_nodes (coded_var n s) = omega arith
some_nodes (coded_app f ts) = omega arith

pub others_fall : (ts : List CodedTree) (t : CodedTree) → 1 ≤ length ts → t ≡ get_or ts 0 t
    → 3 * coded_nodes t - 1 + (3 * coded_nodes_all (coded_forest_of (take (length ts - 1) (drop 1 ts))) + 1)
    < 3 * coded_nodes_all (coded_forest_of ts) + 1
others_fall [] t l e = absurd (omega arith)
others_fall (x ∷ xs) t l e = rw (take_rest (x ∷ xs) 1) (rw (ap coded_nodes e) (omega (arith, some_nodes x)))
