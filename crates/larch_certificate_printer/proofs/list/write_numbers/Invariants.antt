use Rattle.std.proofs.Common.{◌≡◌, ◌++◌, map, drop}
use Rattle.larch_certificate_printer.specs.Number.{number_spelled}
use Rattle.larch_certificate_text.specs.ListText.{list_text}
use Rattle.larch_certificate_printer.proofs.Items.{tail_text}
use Rattle.larch_certificate_printer.proofs.list.write_numbers.Given as goal

-- what is written and what is to come make up the whole
abbrev pub invariant-loop-number : goal.invariant-loop-number
invariant-loop-number l =
    l.text ++ tail_text l.separator (map (number_spelled l.here l.kind) (drop l.number-index l.others))
    ≡ l.fn.text ++ list_text l.separator (map (number_spelled l.here l.kind) l.numbers)
