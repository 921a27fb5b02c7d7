-- How terms are built from their arguments, of which some wait.
use Rattle.std.specs.Prelude.{ℕ, ◌+◌, ◌*◌, List, [], ◌∷◌, ◌++◌, map}
use Rattle.larch_certificate.specs.Coded.{CodedTree, coded_app, coded_forest_of, coded_nodes, coded_nodes_all}
use Rattle.larch_verify_law.specs.Moves.{Move, moved_term}
use Rattle.larch_import.specs.declared.term.Application.{Application}
use Rattle.larch_import.specs.declared.term.Next.{Next}
use Rattle.larch_import.specs.declared.term.Next.TheVariants.{Built, Given}

-- what an application will be
abbrev pub application_tree : Move → Application → CodedTree
application_tree m a = coded_app a.symbol (coded_forest_of (a.built ++ map (moved_term m) a.rest.now))

-- what the applications that wait will be, where the innermost gets this argument
abbrev pub whole : Move → List Application → CodedTree → CodedTree
whole m [] t = t
whole m (a ∷ k) t = whole m k (coded_app a.symbol (coded_forest_of (a.built ++ t ∷ map (moved_term m) a.rest.now)))

-- what the next term will be
abbrev pub next_term : Move → Next → CodedTree
next_term m (Given t) = moved_term m t.now
next_term m (Built t) = t

-- bounds for how many steps are to come
abbrev pub application_steps : Application → ℕ
application_steps a = 2 * coded_nodes_all (coded_forest_of a.rest.now) + 2

abbrev pub steps : List Application → ℕ
steps [] = 0
steps (a ∷ k) = 2 * coded_nodes_all (coded_forest_of a.rest.now) + 1 + steps k

abbrev pub next_steps : Next → ℕ
next_steps (Given t) = 2 * coded_nodes t.now
next_steps (Built t) = 1
