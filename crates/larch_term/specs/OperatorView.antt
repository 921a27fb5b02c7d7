-- What contracts see of an operator of the code.
use Rattle.larch_term.specs.Operator.{PlainOperator, plain}
use Rattle.larch_term.specs.declared.operator.Parts.{Parts}

-- its name is bytes
abbrev pub plain_operator : Parts → PlainOperator
plain_operator parts = record { name = plain parts.name; domain = parts.domain; range = parts.range }
