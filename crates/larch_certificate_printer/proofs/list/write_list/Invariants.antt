use Rattle.std.proofs.Common.{◌≡◌, ◌++◌, map, drop}
use Rattle.larch_certificate_text.specs.ListText.{list_text}
use Rattle.larch_certificate_printer.proofs.Items.{tail_text}
use Rattle.larch_certificate_printer.proofs.list.write_list.Given as goal

-- what is written and what is to come make up the whole
abbrev pub invariant-loop-item : goal.invariant-loop-item
invariant-loop-item g l =
    l.text ++ tail_text l.separator (map (g.T.Item.spells l.here) (drop l.item-index l.others))
    ≡ l.fn.text ++ list_text l.separator (map (g.T.Item.spells l.here) l.items)
