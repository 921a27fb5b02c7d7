use Rattle.std.proofs.Common.{◌≡◌, map, take}
use Rattle.larch_derive.proofs.shared_list.shares.Given as goal

-- the things so far are shared
abbrev pub invariant-loop-item : goal.invariant-loop-item
invariant-loop-item g l =
    map (λ item. item.value) l.shared.items ≡ map (λ item. item.value) (take l.item-index l.items)
