-- The first line of bytes, and the first so many of them.
use Rattle.std.specs.Prelude.{ℕ, ◌+◌, ◌==◌, ◌&&◌, not, nat_lt, nat_le, min, if◌then◌else◌, Bool, List, [], length, take}
use Rattle.std.specs.Prelude.{drop}
use Rattle.std.specs.List.{position_or_len}
use Rattle.larch_base.specs.declared.limits.TheConstants.{MAX_LINE_BYTES}

abbrev pub is_newline : ℕ → Bool
is_newline byte = byte == 10

-- what is found where a line is wanted
pub data LineFound : Type 0 where
  -- a line without its newline, and what stands behind it
  line : (bytes rest : List ℕ) → LineFound
  -- the input is over
  no_line : LineFound
  -- more than 200 bytes come before a newline
  long_line : LineFound
  -- a byte more than may be taken
  full : LineFound
  -- the bytes end before the line does
  unfinished : LineFound

-- The number, from 1, of the byte that decides what the front of the input is, where its first newline or else its end
-- stands behind `size` bytes: it is the newline, or else byte 201, by which the line is too long.
abbrev pub deciding : ℕ → ℕ
deciding size = min size MAX_LINE_BYTES + 1

-- The input has a byte more than may be taken, and the byte that decides stands there or behind.
abbrev pub passes_room : ℕ → ℕ → List ℕ → Bool
passes_room room size input = nat_lt room (length input) && nat_lt room (deciding size)

-- What is found at the front of the input, whose first newline or else end stands behind `size` bytes, and of which
-- `room` bytes may still be taken. Where `ended` is true the input ends with these bytes, and its last line may lack
-- its newline.
abbrev pub line_of_size : Bool → ℕ → ℕ → List ℕ → LineFound
line_of_size ended room size input =
    if passes_room room size input then full
    else if nat_lt MAX_LINE_BYTES size then long_line
    else if nat_lt size (length input) then line (take size input) (drop (size + 1) input)
    else if not ended then unfinished
    else if size == 0 then no_line
    else line input []

abbrev pub line_at : Bool → ℕ → List ℕ → LineFound
line_at ended room input = line_of_size ended room (position_or_len is_newline input) input

-- what is found where so many bytes are wanted
pub data BytesFound : Type 0 where
  -- they, and what stands behind them
  bytes : (front rest : List ℕ) → BytesFound
  -- the input ends before
  cut : BytesFound
  -- a byte more than may be taken
  too_many : BytesFound
  -- the bytes end before, and more may come
  wanting : BytesFound

-- the same for `count` bytes: the input may end too early
abbrev pub bytes_at : Bool → ℕ → ℕ → List ℕ → BytesFound
bytes_at ended room count input =
    if nat_le count (length input) && nat_le count room then bytes (take count input) (drop count input)
    else if nat_lt room (length input) then too_many
    else if not ended then wanting
    else cut
