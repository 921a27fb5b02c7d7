use Rattle.std.proofs.Common.{◌≡◌, Some, cond, take}
use Rattle.std.specs.List.{list_any}
use Rattle.larch_term.specs.Equality.{same_operator}
use Rattle.larch_term.specs.Operator.{PlainOperator}
use Rattle.larch_traits_items.specs.Index.{seen_at, with_seen, with_sort}
use Rattle.larch_traits_items.proofs.index.note_sorts.Given as goal

-- the operator is noted at its first sorts
abbrev pub invariant-loop-position : goal.invariant-loop-position
invariant-loop-position l =
    (key : PlainOperator) → seen_at l.seen.entries key
    ≡ cond (list_any (λ s. same_operator (with_sort l.operator s) key) (take l.position l.operator.domain))
    (Some (with_seen (seen_at l.initial.seen.entries key) l.operator)) (seen_at l.initial.seen.entries key)
