-- Which bytes the parts of a line are made of.
use Rattle.std.specs.Prelude.{◌≢◌, ℕ, ◌==◌, ◌&&◌, ◌||◌, Bool, true, List, [], ◌∷◌}
use Rattle.std.specs.Char.{is_ascii_alphanumeric, is_ascii_digit}
use Rattle.larch_certificate_text.specs.Parts.{Each}

-- each byte is of a class
abbrev pub passes : (ℕ → Bool) → List ℕ → Bool
passes p [] = true
passes p (b ∷ bs) = p b && passes p bs

-- no byte is this one
abbrev pub Lacks : ℕ → List ℕ → Type 0
Lacks c xs = Each (λ b. b ≢ c) xs

-- numbers and distances
abbrev pub is_ref_byte : ℕ → Bool
is_ref_byte b = is_ascii_digit b || (b == 43)

-- words
abbrev pub is_word_byte : ℕ → Bool
is_word_byte b = is_ascii_alphanumeric b || ((b == 39) || (b == 95))

-- operators: all but the colon; + . # @ ~ / \ = < > and words
abbrev pub is_op_byte : ℕ → Bool
is_op_byte b =
    is_word_byte b || ((b == 43) || ((b == 46) || ((b == 35) || ((b == 64) || ((b == 126) || ((b == 47)
    || ((b == 92) || ((b == 61) || ((b == 60) || (b == 62))))))))))

-- leaves
abbrev pub is_atom_byte : ℕ → Bool
is_atom_byte b = is_op_byte b || (b == 58)

-- terms
abbrev pub is_term_byte : ℕ → Bool
is_term_byte b = is_atom_byte b || ((b == 40) || ((b == 41) || (b == 44)))

-- lists and named parts
abbrev pub is_part_byte : ℕ → Bool
is_part_byte b = is_term_byte b || ((b == 59) || ((b == 45) || (b == 124)))

-- lines
abbrev pub is_line_byte : ℕ → Bool
is_line_byte b = is_part_byte b || (b == 32)
