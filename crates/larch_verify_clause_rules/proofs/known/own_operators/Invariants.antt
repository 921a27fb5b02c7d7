use Rattle.std.proofs.Common.{◌≡◌, All, take, Some}
use Rattle.larch_base.specs.ByNumber.{numbered}
use Rattle.larch_verify_meaning.specs.Decoding.{each}
use Rattle.larch_verify_clause_rules.specs.Operators.{IsKnown, operators_in}
use Rattle.larch_verify_clause_rules.proofs.known.own_operators.Given as goal

abbrev pub invariant-loop-number : goal.invariant-loop-number
invariant-loop-number l = record {
  known : All (IsKnown l.pool) l.known.items;
  says : each (numbered l.context.theory.now.operators) (take l.number-index l.numbers)
      ≡ Some (operators_in l.known.items);
}
