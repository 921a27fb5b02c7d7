-- Terms, equations and references inside a line.
use Rattle.std.specs.Prelude.{ℕ, ◌==◌, nat_le, Option, Some, None, option_map, option_and_then, if◌then◌else◌}
use Rattle.std.specs.Prelude.{is_some, length, Result, Ok, Err}
use Rattle.larch_base.specs.declared.fault.Fault.{Fault}
use Rattle.larch_lexer.specs.TokenList.{TokenList}
use Rattle.larch_raw.specs.declared.declared.RawOpRef.{RawOpRef}
use Rattle.larch_raw.specs.declared.equation.RawEquation.{RawEquation}
use Rattle.larch_syntax.specs.Read.{reference_of, term_of}

-- what was read, unless it is refused
abbrev pub read_value : {Value : Type 0} → Result Value Fault → Option Value
read_value (Ok value) = Some value
read_value (Err fault) = None

-- what was read, where it goes to the end of the line
abbrev pub whole : {Value : Type 0} → ℕ → Value × ℕ → Option Value
whole end found = if found.1 == end then Some found.0 else None

-- the equation at the front of the tokens from an index on, with the index after it
abbrev pub equation_at : TokenList → ℕ → Option (RawEquation × ℕ)
equation_at all index = if nat_le index (length all.tokens) then read_value (term_of all index) else None

-- the equation that all tokens from an index on are
abbrev pub whole_equation_at : TokenList → ℕ → Option RawEquation
whole_equation_at all index = option_and_then (whole (length all.tokens)) (equation_at all index)

-- an equation without a right side, which is a term
abbrev pub term_alone : RawEquation → Option RawEquation
term_alone equation = if is_some equation.right then None else Some equation

-- the term that all tokens from an index on are
abbrev pub whole_term_at : TokenList → ℕ → Option RawEquation
whole_term_at all index = option_and_then term_alone (whole_equation_at all index)

-- the term at the front of the tokens from an index on, with the index after it
abbrev pub term_at : TokenList → ℕ → Option (RawEquation × ℕ)
term_at all index =
    option_and_then (λ found. option_map (λ term. (term, found.1)) (term_alone found.0)) (equation_at all index)

-- the reference to operators at the front of the tokens from an index on, with the index after it
abbrev pub reference_at : TokenList → ℕ → Option (RawOpRef × ℕ)
reference_at all index = if nat_le index (length all.tokens) then read_value (reference_of all index) else None

-- the reference that all tokens from an index on are
abbrev pub whole_reference_at : TokenList → ℕ → Option RawOpRef
whole_reference_at all index = option_and_then (whole (length all.tokens)) (reference_at all index)
