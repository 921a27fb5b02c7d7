-- Decimal numbers as texts.
use Rattle.std.specs.Prelude.{ℕ, ◌+◌, ◌-◌, ◌*◌, ◌==◌, ◌&&◌, ◌||◌, not, nat_le, if◌then◌else◌, fold, Bool, false, List}
use Rattle.std.specs.Prelude.{[], ◌∷◌, length, Option, Some, None}
use Rattle.std.specs.Char.{is_ascii_digit}
use Rattle.std.specs.List.{list_all}

-- a number with one digit more
abbrev pub with_digit : ℕ → ℕ → ℕ
with_digit number digit = 10 * number + (digit - 48)

-- the number that digits spell
abbrev pub value_of : List ℕ → ℕ
value_of digits = fold with_digit 0 digits

-- digits, of which the first is 0 only where it stands alone
abbrev pub is_number : List ℕ → Bool
is_number [] = false
is_number (digit ∷ digits) =
    list_all is_ascii_digit (digit ∷ digits) && (not (digit == 48) || (length digits == 0))

-- the number that a text is, where it is one, and at most so large
abbrev pub read_number : ℕ → List ℕ → Option ℕ
read_number most text = if is_number text && nat_le (value_of text) most then Some (value_of text) else None
