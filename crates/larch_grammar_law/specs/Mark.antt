-- What is counted at tokens.
use Rattle.std.specs.Prelude.{ℕ, ◌+◌, nat_le, cond, Bool, true, false, ◌&&◌, Result, Ok, Err, List, [], ◌∷◌}
use Rattle.larch_base.specs.declared.limits.TheConstants.{MAX_HEAD_TOKENS}
use Rattle.larch_grammar_law.specs.declared.mark.Flaw.{Flaw}
use Rattle.larch_grammar_law.specs.declared.mark.Flaw.TheVariants.{Mixed, Syntax, Deep, Large}
use Rattle.larch_grammar_law.specs.declared.mark.Mark.{Mark}
use Rattle.larch_grammar_law.specs.declared.mark.Mark.TheVariants.{Plain, Outside, Head, Opens, OpensHead, Chained}

-- the token continues a chain with another symbol
abbrev pub is_mixed : Mark → Bool
is_mixed Plain = false
is_mixed Outside = false
is_mixed Head = false
is_mixed (Opens deep) = false
is_mixed (OpensHead deep) = false
is_mixed (Chained mixed) = mixed

-- the token opens a construct too many
abbrev pub is_deep : Mark → Bool
is_deep Plain = false
is_deep Outside = false
is_deep Head = false
is_deep (Opens deep) = deep
is_deep (OpensHead deep) = deep
is_deep (Chained mixed) = false

-- it is a head token
abbrev pub is_head : Mark → Bool
is_head Plain = false
is_head Outside = false
is_head Head = true
is_head (Opens deep) = false
is_head (OpensHead deep) = true
is_head (Chained mixed) = true

-- head tokens are counted anew behind it
abbrev pub is_outside : Mark → Bool
is_outside Outside = true
is_outside _ = false

-- it is a head token too many, so many being before it
abbrev pub is_large : ℕ → Mark → Bool
is_large heads mark = is_head mark && nat_le MAX_HEAD_TOKENS heads

-- the counted conditions; SYNTAX is none
abbrev pub counts : Flaw → ℕ → Mark → Bool
counts Mixed heads mark = is_mixed mark
counts Syntax heads mark = false
counts Deep heads mark = is_deep mark
counts Large heads mark = is_large heads mark

-- the number of head tokens behind a token
abbrev pub heads_behind : ℕ → Mark → ℕ
heads_behind heads mark = cond (is_outside mark) 0 (cond (is_head mark) (heads + 1) heads)

-- the number of head tokens behind all these
abbrev pub heads_of : {Token : Type 0} → ℕ → List (Token × Mark) → ℕ
heads_of heads [] = heads
heads_of heads (m ∷ ms) = heads_of (heads_behind heads m.1) ms

-- MIXED, then DEEP, then SIZE; else the number of head tokens behind the token
abbrev pub admission : ℕ → Mark → Result ℕ Flaw
admission heads mark = cond (is_mixed mark) (Err Mixed)
    (cond (is_deep mark) (Err Deep) (cond (is_large heads mark) (Err Large) (Ok (heads_behind heads mark))))
