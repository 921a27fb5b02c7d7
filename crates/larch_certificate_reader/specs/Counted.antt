-- Numbers of a list, by what they count.
use Rattle.std.specs.Prelude.{ℕ, List, Option}
use Rattle.larch_certificate_reader.specs.declared.list.Counted.{Counted}
use Rattle.larch_certificate_reader.specs.declared.list.Counted.TheVariants as kind
use Rattle.larch_certificate_text.specs.LineText.{read_argument, read_operator}
use Rattle.larch_certificate_text.specs.Parts.{read_ref}
use Rattle.larch_certificate_text.specs.declared.here.Here.{Here}

-- how a number of a list is read
abbrev pub read_count : Here → Counted → List ℕ → Option ℕ
read_count h kind.Argument = read_argument
read_count h kind.Line = read_ref h
read_count h kind.Operator = read_operator
