-- What laws say of duties.
use Rattle.std.specs.Prelude.{All}
use Rattle.larch_term.specs.Statement.{IsTheory}
use Rattle.larch_term.specs.declared.statement.Theory.{Theory}
use Rattle.larch_flat_meaning.specs.Laws.{IsInWords, IsStatedOver, IsTheoryInWords}
use Rattle.larch_duties_meaning.specs.Duties.{Duty}

-- a theory each of whose statements is well sorted over its operators, names these alone where it is a clause, and has
-- no sorts but theirs
abbrev pub IsSoundTheory : Theory → Type 0
IsSoundTheory t = IsTheory t × All (IsStatedOver t.operators) t.statements

-- a duty of a sound theory, whose statement is one over it
abbrev pub IsSoundDuty : Duty → Type 0
IsSoundDuty d = IsSoundTheory d.theory × IsStatedOver d.theory.operators d.statement

-- each sort and each variable in a duty is a word, in its theory and in its statement
abbrev pub IsDutyInWords : Duty → Type 0
IsDutyInWords d = IsTheoryInWords d.theory × IsInWords d.statement
