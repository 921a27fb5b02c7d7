use Rattle.std.proofs.Common.{◌≡◌, take}
use Rattle.larch_term.specs.Operator.{PlainOperator}
use Rattle.larch_traits_items.specs.Index.{is_itself, seen_among, seen_at}
use Rattle.larch_traits_items.proofs.index.seen_themselves.Given as goal

-- what was seen are the operators so far
abbrev pub invariant-loop-operator : goal.invariant-loop-operator
invariant-loop-operator l =
    (key : PlainOperator) → seen_at l.seen.entries key ≡ seen_among (is_itself key) (take l.operator-index l.operators)
