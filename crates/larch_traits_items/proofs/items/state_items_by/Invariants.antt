use Rattle.std.proofs.Common.{◌≡◌, drop}
use Rattle.larch_traits_items.specs.Items.{item_states, items_state}
use Rattle.larch_base_meaning.specs.Steps.{all_behind, all_taken}
use Rattle.larch_traits_items.proofs.items.state_items_by.Given as goal

-- the statements so far, with those of the items that are left, are all
abbrev pub invariant-loop-item : goal.invariant-loop-item
invariant-loop-item l =
    all_taken (λ item. all_behind (item_states l.signature item)) (drop l.item-index l.items) l.statements
    ≡ items_state l.signature l.items
