-- What code moves the numbers of a part by.
use Rattle.std.specs.Prelude.{ℕ, Option, option_and_then}
use Rattle.larch_base.specs.ByNumber.{numbered}
use Rattle.larch_certificate.specs.declared.line.Line.{Line}
use Rattle.larch_verify_law.specs.Moves.{Move}
use Rattle.larch_derive_join.specs.Joined.{cited_lemma, if_clause, move_on}
use Rattle.larch_derive_join.specs.declared.lemma.Lemma.{Lemma}
use Rattle.larch_derive_join.specs.declared.shift.Shift.{Shift}

-- what takes the place of what the part's lines name
abbrev pub move_of : Shift → Move
move_of s = move_on s.by s.lemmas.now s.part.now

-- the lemma that a line of the part cites
abbrev pub lemma_at : Shift → Line → Option Lemma
lemma_at s l = cited_lemma s.part.now.statements s.lemmas.now l

-- the clause that the part's line with a number cites
abbrev pub clause_at : Shift → ℕ → Option Lemma
clause_at s n = option_and_then (λ l. option_and_then if_clause (lemma_at s l)) (numbered s.part.now.certificate n)
