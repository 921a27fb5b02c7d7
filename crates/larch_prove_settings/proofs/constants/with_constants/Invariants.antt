use Rattle.std.proofs.Common.{◌≡◌, fold, take}
use Rattle.larch_order.specs.Precedence.{with_constant}
use Rattle.larch_prove_settings.proofs.constants.with_constants.Given as goal

-- those so far are in the precedence
abbrev pub invariant-loop-constant : goal.invariant-loop-constant
invariant-loop-constant l = l.new ≡ fold with_constant l.precedence (take l.constant-index l.made)
