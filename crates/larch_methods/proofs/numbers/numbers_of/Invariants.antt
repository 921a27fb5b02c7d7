use Rattle.std.proofs.Common.{◌≡◌, map, take}
use Rattle.std.specs.Prelude.{Some}
use Rattle.larch_base.specs.ByNumber.{numbered}
use Rattle.larch_methods.proofs.numbers.numbers_of.Given as goal

-- the numbers so far are those of the operators so far
abbrev pub invariant-loop-operator : goal.invariant-loop-operator
invariant-loop-operator l = map (numbered l.own) l.numbers ≡ map Some (take l.operator-index l.operators)
