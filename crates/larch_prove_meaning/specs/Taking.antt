-- Why the number that an adding counts down never comes to 0.
use Rattle.std.specs.Prelude.{ℕ, ◌+◌, ◌-◌, ◌*◌, List, [], ◌∷◌}
use Rattle.larch_base.specs.declared.limits.TheConstants.{MAX_TERM_NODES}
use Rattle.larch_term.specs.Tree.{nodes}
use Rattle.larch_rewrite_meaning.specs.Sides.{Sides}

-- what an equation weighs: twice the nodes of both sides less three, so that the two consequences of a conjunction
-- weigh less than it does
abbrev pub weight : Sides → ℕ
weight e = 2 * (nodes e.left + nodes e.right) - 3

-- what equations weigh together
abbrev pub weights : List Sides → ℕ
weights [] = 0
weights (e ∷ es) = weight e + weights es

-- more equations than are taken where these wait: each taking makes what waits lighter by one at least, unless rules
-- are applied, each of which makes it heavier by less than four terms weigh
abbrev pub enough : List Sides → ℕ → ℕ
enough waiting b = weights waiting + (4 * MAX_TERM_NODES * b + 1)
