-- The variables x and y, and terms in their places.
use Rattle.std.specs.Prelude.{ℕ, List, [], ◌∷◌, codes}
use Rattle.larch_term.specs.Tree.{Tree}
use Rattle.larch_term.specs.declared.substitution.Entry.{Entry}
use Rattle.larch_calculus.specs.Identity.{Proposition, letter}

-- terms for x and for y, both of one sort
abbrev pub two : List ℕ → Tree → Tree → List Entry
two s a b = record { name = codes "x"; sort = s; term = a } ∷ record { name = codes "y"; sort = s; term = b } ∷ []

-- x and y as propositions
abbrev pub x_letter : Proposition
x_letter = letter (codes "x")

abbrev pub y_letter : Proposition
y_letter = letter (codes "y")
