use Rattle.std.proofs.Common.{◌≡◌, fold, take}
use Rattle.larch_order.specs.Precedence.{with_constant}
use Rattle.larch_prove_beginning.proofs.opening.add_constants.Given as goal

-- those so far are in the precedence
abbrev pub invariant-loop-constant : goal.invariant-loop-constant
invariant-loop-constant l = l.precedence ≡ fold with_constant l.initial.precedence (take l.constant-index l.constants)
