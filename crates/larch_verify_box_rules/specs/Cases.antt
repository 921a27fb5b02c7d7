-- Two boxes that suppose the two truth values of a formula.
use Rattle.std.specs.Prelude.{◌&&◌, Bool}
use Rattle.larch_term.specs.Tree.{Tree}
use Rattle.larch_term.specs.Truth.{truth}
use Rattle.larch_calculus.specs.Formula.{falsity}
use Rattle.larch_verify_meaning.specs.BoxRules.{supposes}
use Rattle.larch_verify_meaning.specs.Events.{PlainBox}

-- whether one box supposes alone that a formula is true, and the other that it is false
abbrev pub are_cases : PlainBox → PlainBox → Tree → Bool
are_cases b d f = supposes b f truth && supposes d f falsity
