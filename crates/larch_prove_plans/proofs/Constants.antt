-- Constants as arguments.
use Rattle.std.specs.Prelude.{◌≡◌, List, [], ◌∷◌, map, refl}
use Rattle.std.proofs.Common.{ap}
use Rattle.larch_term.specs.Operator.{PlainOperator}
use Rattle.larch_term.specs.Tree.{more, forest_of}
use Rattle.larch_calculus.specs.Formula.{constant}
use Rattle.larch_calculus.specs.Generation.{constant_terms}

pub constants_as_terms : (cs : List PlainOperator) → forest_of (map constant cs) ≡ constant_terms cs
constants_as_terms [] = refl
constants_as_terms (c ∷ cs) = ap (more (constant c)) (constants_as_terms cs)
