-- What the last line of a certificate is.
use Rattle.std.specs.Prelude.{◌≡◌, Bool, true, false, List, [], ◌∷◌}
use Rattle.std.specs.Option.{option_map_or}
use Rattle.larch_certificate.specs.TermStatementStatement.{Statement}
use Rattle.larch_certificate.specs.TermStatementStatement.TheVariants.{Equation, Generated, Partitioned}
use Rattle.larch_certificate.specs.TermStatementTheory.{Theory}
use Rattle.larch_certificate.specs.declared.line.Line.{Line}
use Rattle.larch_certificate.specs.declared.line.Line.TheVariants.{Axiom}
use Rattle.larch_verify_meaning.specs.Rules.{axiom_says}

-- whether the statement is a clause
abbrev pub is_clause : Statement → Bool
is_clause (Equation l r) = false
is_clause (Generated s fs) = true
is_clause (Partitioned s fs) = true

-- whether the line says a clause as a statement of the theory
abbrev pub states_clause : Theory → Line → Bool
states_clause t (Axiom k) = option_map_or is_clause (axiom_says t k) false
states_clause t line = false

-- whether the last of the lines does
abbrev pub ends_with_stated_clause : Theory → List Line → Bool
ends_with_stated_clause t [] = false
ends_with_stated_clause t (line ∷ []) = states_clause t line
ends_with_stated_clause t (line ∷ next ∷ lines) = ends_with_stated_clause t (next ∷ lines)

-- the last line isn't an axiom line of a clause
abbrev pub EndsWithoutStatedClause : Theory → List Line → Type 0
EndsWithoutStatedClause t lines = ends_with_stated_clause t lines ≡ false
