-- Numbers of a list, by what they count.
use Rattle.std.specs.Prelude.{ℕ, List, ◌∷◌, decimal}
use Rattle.larch_certificate_printer.specs.declared.number.NumberKind.{NumberKind}
use Rattle.larch_certificate_printer.specs.declared.number.NumberKind.TheVariants as kind
use Rattle.larch_certificate_text.specs.LineText.{operator_text}
use Rattle.larch_certificate_text.specs.Parts.{ref_text}
use Rattle.larch_certificate_text.specs.declared.here.Here.{Here}

-- how a number of a list is spelled
abbrev pub number_spelled : Here → NumberKind → ℕ → List ℕ
number_spelled h kind.Argument = decimal
number_spelled h kind.Line = ref_text h
number_spelled h kind.Operator = operator_text
