-- A shared term has more nodes than each of its arguments.
use Rattle.std.specs.Prelude.{◌+◌, ◌*◌, ◌≤◌, List, [], ◌∷◌}
use Rattle.std.proofs.Common.{arith}
use denote.Param.Weighed.{most}
use Rattle.larch_term.specs.Tree.{nodes, nodes_all}
use Rattle.larch_store.specs.Numbered.{Numbered, term_of, terms_of, several}

pub most_below : (xs : List Numbered)
    → most (λ x. 2 * nodes (term_of x) + 1) xs ≤ 2 * nodes_all (terms_of (several xs)) + 1
most_below [] = omega arith
most_below (x ∷ xs) = omega (arith, most_below xs)
