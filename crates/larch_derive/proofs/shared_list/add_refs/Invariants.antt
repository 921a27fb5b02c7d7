use Rattle.std.proofs.Common.{◌≡◌, ◌++◌, map, take}
use Rattle.larch_derive.proofs.shared_list.add_refs.Given as goal

-- references to the things so far stand behind the others
abbrev pub invariant-loop-item : goal.invariant-loop-item
invariant-loop-item g l =
    map (λ item. item.now) l.refs.items
    ≡ map (λ item. item.now) l.initial.refs.items ++ map (λ item. item.value) (take l.item-index l.items)
