-- The parts of what is supposed where a generation clause is shown.
use Rattle.std.specs.Prelude.{if◌then◌else◌, List, [], ◌∷◌, ℕ, bytes_eq, Option, Some, None}
use Rattle.larch_term.specs.Operator.{PlainOperator}
use Rattle.larch_term.specs.Sorts.{sort_of}
use Rattle.larch_term.specs.Tree.{Tree}
use Rattle.larch_calculus.specs.Formula.{apply_one, conjunction, implication}

-- the predicate of each of the terms that have the sort
abbrev pub holding_of : PlainOperator → List ℕ → List Tree → List Tree
holding_of p s [] = []
holding_of p s (t ∷ ts) = if bytes_eq (sort_of t) s then apply_one p t ∷ holding_of p s ts else holding_of p s ts

-- a term behind others that are joined, if there are any
abbrev pub with_term : Option Tree → Tree → Tree
with_term None t = t
with_term (Some u) t = conjunction u t

-- further terms likewise
abbrev pub with_terms : Option Tree → List Tree → Option Tree
with_terms o [] = o
with_terms o (t ∷ ts) = with_terms (Some (with_term o t)) ts

-- what follows from a term, if there is one
abbrev pub following : Option Tree → Tree → Tree
following None t = t
following (Some u) t = implication u t
