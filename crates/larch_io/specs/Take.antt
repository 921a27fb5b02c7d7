-- Lines and pieces of a known length, as they are taken by a reader.
use Rattle.std.specs.Prelude.{◌≡◌, ◌≢◌, ◌<◌, ◌≤◌, ◌+◌, ◌⊎◌, ℕ, Bool, true, List, [], ◌∷◌, ◌++◌, All, length, take}
use Rattle.std.specs.Prelude.{drop, Option}
use Rattle.larch_base.specs.declared.limits.TheConstants.{MAX_LINE_BYTES}
use Rattle.larch_io.specs.Reader.{Taken, Takes}
use Rattle.larch_io.specs.declared.take.LineEnd.{LineEnd}
use Rattle.larch_io.specs.declared.take.LineEnd.TheVariants.{At, Behind, TooLong, Full}

-- no newline is among these bytes
abbrev pub HasNoNewline : List ℕ → Type 0
HasNoNewline bytes = All (λ byte. byte ≢ 10) bytes

-- bytes of a line: no newline, and not too many
abbrev pub IsLine : List ℕ → Type 0
IsLine line = HasNoNewline line × (length line ≤ MAX_LINE_BYTES)

-- a line was taken: with its newline, or as the last of the input, which may lack it
abbrev pub TakesLine : Taken → Taken → Option (List ℕ) → Option (List ℕ) → List ℕ → Type 0
TakesLine old new before after line =
    IsLine line
    × (Takes old new before after (line ++ 10 ∷ [])
    ⊎ (Takes old new before after line × (0 < length line) × (new.kept ≡ []) × (new.ended ≡ true)))

-- the newline at a place is the first
abbrev pub EndsAt : List ℕ → ℕ → Type 0
EndsAt kept place = kept ≡ take place kept ++ 10 ∷ drop (place + 1) kept

-- The line at the front has so many bytes, and so many end it: one newline, or none where the source has ended.
abbrev pub LineStands : List ℕ → Bool → ℕ → ℕ → Type 0
LineStands kept ended count ending =
    IsLine (take count kept)
    × (((ending ≡ 1) × EndsAt kept count)
    ⊎ ((ending ≡ 0) × (0 < count) × (count ≡ length kept) × (ended ≡ true)))

-- The line passes its limit: its byte 201 may be taken, and no newline stands before it.
abbrev pub IsTooLong : ℕ → List ℕ → Type 0
IsTooLong room kept =
    (MAX_LINE_BYTES < length kept) × (MAX_LINE_BYTES < room) × HasNoNewline (take (MAX_LINE_BYTES + 1) kept)

-- A byte more is there than may be taken, and neither a newline nor the line's byte 201 stands before it.
abbrev pub PassesRoom : ℕ → List ℕ → Type 0
PassesRoom room kept = (room < length kept) × (room ≤ MAX_LINE_BYTES) × HasNoNewline (take room kept)

-- where the line at the front of these bytes ends, of which `room` may be taken
abbrev pub EndIs : List ℕ → ℕ → LineEnd → Type 0
EndIs kept room (At place) = IsLine (take place kept) × EndsAt kept place × (place < length kept) × (place < room)
EndIs kept room Behind = IsLine kept × (length kept ≤ room)
EndIs kept room TooLong = IsTooLong room kept
EndIs kept room Full = PassesRoom room kept
