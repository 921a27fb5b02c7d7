-- Numbers, names of lines, words and parts as texts, both ways.
use Rattle.std.specs.Prelude.{ℕ, ◌+◌, ◌-◌, ◌*◌, ◌^◌, ◌<◌, ◌==◌, ◌&&◌, nat_lt, nat_le, Bool, true, false, List}
use Rattle.std.specs.Prelude.{[], ◌∷◌, length, decimal, Option, Some, None, option_map, option_and_then}
use Rattle.std.specs.Prelude.{if◌then◌else◌}
use Rattle.std.specs.Char.{is_ascii_digit}
use Rattle.larch_certificate_text.specs.declared.here.Here.{Here}

-- a number that a text may have
abbrev pub IsSmall : ℕ → Type 0
IsSmall n = n < 2 ^ 64

-- a number with one digit more
abbrev pub with_digit : ℕ → ℕ → Option ℕ
with_digit value byte =
    if is_ascii_digit byte && nat_lt (value * 10 + (byte - 48)) (2 ^ 64)
    then Some (value * 10 + (byte - 48)) else None

-- a number with these digits more
abbrev pub digits_from : ℕ → List ℕ → Option ℕ
digits_from value [] = Some value
digits_from value (b ∷ bs) = option_and_then (λ more. digits_from more bs) (with_digit value b)

-- the number that a text is: digits without leading zeros
abbrev pub read_number : List ℕ → Option ℕ
read_number [] = None
read_number (b ∷ bs) = if (b == 48) && nat_lt 0 (length bs) then None else digits_from 0 (b ∷ bs)

-- line m as line n names it: by its number, or by the distance
abbrev pub ref_by : Bool → ℕ → ℕ → List ℕ
ref_by false n m = decimal m
ref_by true n m = if nat_le m n then decimal (n - m) else 43 ∷ decimal (m - n)

-- line m as it is named here
abbrev pub ref_text : Here → ℕ → List ℕ
ref_text h m = ref_by h.relative h.line m

-- the line at a distance behind line n; a distance of 0 is written without a sign
abbrev pub ahead : ℕ → ℕ → Option ℕ
ahead n d = if nat_lt 0 d && nat_lt (n + d) (2 ^ 64) then Some (n + d) else None

-- the line at a distance before line n
abbrev pub behind : ℕ → ℕ → Option ℕ
behind n d = if nat_le d n then Some (n - d) else None

-- the line that a distance names: with + in front it stands behind line n
abbrev pub read_distance : ℕ → List ℕ → Option ℕ
read_distance n [] = None
read_distance n (b ∷ bs) =
    if b == 43 then option_and_then (ahead n) (read_number bs)
    else option_and_then (behind n) (read_number (b ∷ bs))

-- the line that a text names: by its number, or by the distance
abbrev pub read_ref_by : Bool → ℕ → List ℕ → Option ℕ
read_ref_by false n text = read_number text
read_ref_by true n text = read_distance n text

-- the line that a text names
abbrev pub read_ref : Here → List ℕ → Option ℕ
read_ref h text = read_ref_by h.relative h.line text

-- a byte in front of what stands before a cut
abbrev pub onto : ℕ → List ℕ × List ℕ → List ℕ × List ℕ
onto b p = (b ∷ p.0, p.1)

-- the text before and behind the first of these bytes
abbrev pub cut_at : ℕ → List ℕ → Option (List ℕ × List ℕ)
cut_at c [] = None
cut_at c (b ∷ bs) = if b == c then Some ([], bs) else option_map (onto b) (cut_at c bs)

-- what holds of each
abbrev pub Each : {A : Type 0} → (A → Type 0) → List A → Type 0
Each P [] = Unit {0}
Each P (x ∷ xs) = P x × Each P xs
