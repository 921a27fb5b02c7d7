-- Numbers of scripts.
use Rattle.std.specs.Prelude.{ℕ, ◌+◌, ◌-◌, ◌*◌, ◌==◌, ◌&&◌, nat_lt, List, [], ◌∷◌, length, Option, Some, None}
use Rattle.std.specs.Prelude.{option_and_then, if◌then◌else◌}
use Rattle.std.specs.Char.{is_ascii_digit}

-- a number with one digit more, of at most six digits
abbrev pub with_digit : ℕ → ℕ → Option ℕ
with_digit value byte =
    if is_ascii_digit byte && nat_lt (value * 10 + (byte - 48)) 1000000 then Some (value * 10 + (byte - 48)) else None

-- a number with these digits more
abbrev pub with_digits : ℕ → List ℕ → Option ℕ
with_digits value [] = Some value
with_digits value (byte ∷ bytes) = option_and_then (λ more. with_digits more bytes) (with_digit value byte)

-- the number that a text is: at most six digits, without leading zeros
abbrev pub number_of : List ℕ → Option ℕ
number_of [] = None
number_of (byte ∷ bytes) = if (byte == 48) && nat_lt 0 (length bytes) then None else with_digits 0 (byte ∷ bytes)
