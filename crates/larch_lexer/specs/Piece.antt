-- What stands at the front of a text: the longest token, or what is passed over.
use Rattle.std.specs.Prelude.{ℕ, ◌+◌, ◌==◌, ◌&&◌, ◌||◌, nat_lt, not, if◌then◌else◌, Bool, List, [], ◌∷◌, Option, Some}
use Rattle.std.specs.Prelude.{None}
use Rattle.std.specs.Char.{is_ascii_alphabetic, is_ascii_alphanumeric}
use Rattle.larch_base.specs.Word.{begins_alphanumeric}
use Rattle.larch_lexer.specs.TokenTable.{is_blank, is_symbol, is_punctuation, begins_with, stands_in_run}
use Rattle.larch_lexer.specs.declared.piece.Piece.{Piece}
use Rattle.larch_lexer.specs.declared.piece.Piece.TheVariants.{Skipped, Kept, Nothing}
use Rattle.larch_lexer.specs.declared.piece.Stretch.{Stretch}
use Rattle.larch_lexer.specs.declared.piece.Stretch.TheVariants.{Comment, Wordlike, Letters, Symbols}
use Rattle.larch_lexer.specs.declared.token.Kind.TheVariants.{Word, Marker, Backslash, Connective, Run, Punctuation}

-- a byte may stand inside a word, where some bytes stand behind it
abbrev pub stands_in_word : ℕ → List ℕ → Bool
stands_in_word byte behind = is_ascii_alphanumeric byte || (byte == 39) || ((byte == 95) && begins_alphanumeric behind)

-- a byte may stand in a stretch, where some bytes stand behind it
abbrev pub stands_in : Stretch → ℕ → List ℕ → Bool
stands_in Comment byte behind = not (byte == 10)
stands_in Wordlike byte behind = stands_in_word byte behind
stands_in Letters byte behind = is_ascii_alphabetic byte
stands_in Symbols byte behind = stands_in_run byte behind

-- how many bytes pass the test from the front on, each seen with what stands behind it
abbrev pub passing : (ℕ → List ℕ → Bool) → List ℕ → ℕ
passing test [] = 0
passing test (byte ∷ rest) = if test byte rest then (passing test rest + 1) else 0

-- how many bytes of a stretch stand at the front
abbrev pub stretch_length : Stretch → List ℕ → ℕ
stretch_length stretch bytes = passing (stands_in stretch) bytes

-- what _ begins, where some bytes stand behind it
abbrev pub piece_at_underscore : List ℕ → Piece
piece_at_underscore rest = if begins_with 95 rest then Kept Marker 1 else Nothing

-- what \ begins
abbrev pub piece_at_backslash : List ℕ → Piece
piece_at_backslash rest =
    if nat_lt 0 (stretch_length Letters rest) then Kept Backslash (stretch_length Letters rest)
    else (if begins_with 47 rest then Kept Connective 1
    else Nothing)

-- what a byte of runs begins
abbrev pub piece_at_symbol : ℕ → List ℕ → Piece
piece_at_symbol byte rest =
    if (byte == 47) && begins_with 92 rest then Kept Connective 1
    else Kept Run (stretch_length Symbols rest)

-- what a byte begins, where some bytes stand behind it
abbrev pub piece_at : ℕ → List ℕ → Piece
piece_at byte rest =
    if is_ascii_alphanumeric byte then Kept Word (stretch_length Wordlike rest)
    else (if is_blank byte then Skipped 0
    else (if byte == 37 then Skipped (stretch_length Comment rest)
    else (if byte == 95 then piece_at_underscore rest
    else (if byte == 92 then piece_at_backslash rest
    else (if is_symbol byte then piece_at_symbol byte rest
    else (if is_punctuation byte then Kept Punctuation 0
    else Nothing))))))

-- how many bytes a piece has behind its first one
abbrev pub further_of : Piece → Option ℕ
further_of (Skipped further) = Some further
further_of (Kept kind further) = Some further
further_of Nothing = None
