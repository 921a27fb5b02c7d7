-- Equations with the lines that say them.
use Rattle.std.specs.Prelude.{◌≤◌, List, map, reverse}
use Rattle.larch_derive.specs.Predicates.{HasEquation}
use Rattle.larch_derive.specs.declared.builder.Builder.{Builder}
use Rattle.larch_prove_adding.specs.declared.equation.SaidEquation.{SaidEquation}
use Rattle.larch_rewrite_meaning.specs.Sides.{Sides}
use Rattle.larch_store.specs.Stored.{most_nodes}
use Rattle.larch_term.specs.Tree.{nodes}

-- the sides of an equation
abbrev pub sides_in : SaidEquation → Sides
sides_in e = record { left = e.left; right = e.right }

-- its line says it
abbrev pub IsSaid : Builder → SaidEquation → Type 0
IsSaid b e = HasEquation b e.line e.left e.right

-- neither side has more nodes than a term of a proof may have
abbrev pub IsSmall : SaidEquation → Type 0
IsSmall e = (nodes e.left ≤ most_nodes) × (nodes e.right ≤ most_nodes)

-- equations that wait, the last of which is the next one
abbrev pub waiting_in : List SaidEquation → List Sides
waiting_in es = map sides_in (reverse es)
