-- Names of facts, as commands write them.
use Rattle.std.specs.Prelude.{ℕ, ◌+◌, ◌==◌, List, [], ◌∷◌, Option, Some, None, option_map, option_and_then}
use Rattle.std.specs.Prelude.{if◌then◌else◌, codes}
use Rattle.larch_base.specs.declared.fact_name.FactLetter.{FactLetter}
use Rattle.larch_base.specs.declared.fact_name.FactLetter.TheVariants.{Axiom, Lemma, Hypothesis, Derived}
use Rattle.larch_base.specs.declared.fact_name.FactName.{FactName}
use Rattle.larch_lexer.specs.declared.token.Token.{Token}
use Rattle.larch_script.specs.Numbers.{number_of}
use Rattle.larch_script.specs.Texts.{ends, says, text_at}

-- what a fact comes from, by its letter: A, L, H or D
abbrev pub letter_of : ℕ → Option FactLetter
letter_of byte =
    if byte == 65 then Some Axiom
    else if byte == 76 then Some Lemma
    else if byte == 72 then Some Hypothesis
    else if byte == 68 then Some Derived
    else None

-- the first part of a fact, by its letter and its number
abbrev pub fact_name : List ℕ → Option FactName
fact_name [] = None
fact_name (byte ∷ digits) =
    option_and_then
    (λ letter. option_map (λ number. record { letter = letter; number = number; part = 1 }) (number_of digits))
    (letter_of byte)

-- another part of a fact
abbrev pub part_of : FactName → ℕ → FactName
part_of fact part = record { letter = fact.letter; number = fact.number; part = part }

-- a fact by the text at an index: its part with this number, where a dot and a number follow, or else its first part;
-- with the index after it
abbrev pub with_part : List Token → ℕ → FactName → Option (FactName × ℕ)
with_part tokens index fact =
    if says tokens (index + 1) (codes ".")
    then option_map (λ part. (part_of fact part, index + 3)) (number_of (text_at tokens (index + 2)))
    else Some (fact, index + 1)

-- the fact that is named at an index, with the index after it
abbrev pub fact_at : List Token → ℕ → Option (FactName × ℕ)
fact_at tokens index = option_and_then (with_part tokens index) (fact_name (text_at tokens index))

-- the fact with which the line ends
abbrev pub at_end : List Token → FactName × ℕ → Option FactName
at_end tokens found = if ends tokens found.1 then Some found.0 else None

-- the fact that is all that stands from an index on
abbrev pub whole_fact_at : List Token → ℕ → Option FactName
whole_fact_at tokens index = option_and_then (at_end tokens) (fact_at tokens index)
