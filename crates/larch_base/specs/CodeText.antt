-- The texts of codes.
use Rattle.std.specs.Prelude.{ℕ, List, codes}
use Rattle.larch_base.specs.declared.code.Code.{Code}
use Rattle.larch_base.specs.declared.code.Code.TheVariants.{Lex, Syntax, Mixed, Deep, Size, TraitName, UnknownTrait}
use Rattle.larch_base.specs.declared.code.Code.TheVariants.{Cycle, BadReference, Rename, FieldTwice, Arity, BuiltIn}
use Rattle.larch_base.specs.declared.code.Code.TheVariants.{UnknownSort, VariableTwice, Generator, Partition}
use Rattle.larch_base.specs.declared.code.Code.TheVariants.{NoReading, Ambiguous, ImpliedOperator, Converted, Exempt}
use Rattle.larch_base.specs.declared.code.Code.TheVariants.{Command, Mark, Done, Variable, Operator, Shape, Generated}
use Rattle.larch_base.specs.declared.code.Code.TheVariants.{Partitioned, Fact, Open, Limit, UnknownDuty, DutyTwice}

-- a code as reports write it
abbrev pub code_text : Code → List ℕ
code_text Lex = codes "LEX"
code_text Syntax = codes "SYNTAX"
code_text Mixed = codes "MIXED"
code_text Deep = codes "DEEP"
code_text Size = codes "SIZE"
code_text TraitName = codes "TRAIT-NAME"
code_text UnknownTrait = codes "UNKNOWN-TRAIT"
code_text Cycle = codes "CYCLE"
code_text BadReference = codes "BAD-REFERENCE"
code_text Rename = codes "RENAME"
code_text FieldTwice = codes "FIELD-TWICE"
code_text Arity = codes "ARITY"
code_text BuiltIn = codes "BUILT-IN"
code_text UnknownSort = codes "UNKNOWN-SORT"
code_text VariableTwice = codes "VARIABLE-TWICE"
code_text Generator = codes "GENERATOR"
code_text Partition = codes "PARTITION"
code_text NoReading = codes "NO-READING"
code_text Ambiguous = codes "AMBIGUOUS"
code_text ImpliedOperator = codes "IMPLIED-OPERATOR"
code_text Converted = codes "CONVERTED"
code_text Exempt = codes "EXEMPT"
code_text Command = codes "COMMAND"
code_text Mark = codes "MARK"
code_text Done = codes "DONE"
code_text Variable = codes "VARIABLE"
code_text Operator = codes "OPERATOR"
code_text Shape = codes "SHAPE"
code_text Generated = codes "GENERATED"
code_text Partitioned = codes "PARTITIONED"
code_text Fact = codes "FACT"
code_text Open = codes "OPEN"
code_text Limit = codes "LIMIT"
code_text UnknownDuty = codes "UNKNOWN-DUTY"
code_text DutyTwice = codes "DUTY-TWICE"
