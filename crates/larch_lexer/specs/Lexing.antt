-- The tokens of a text, computed from the front on.
use Rattle.std.specs.Prelude.{ℕ, zero, suc, ◌+◌, ◌==◌, if◌then◌else◌, List, [], ◌∷◌, take, Ok, Err}
use Rattle.larch_base.specs.Position.{start_of_text, advance}
use Rattle.larch_base.specs.declared.position.Pos.{Pos}
use Rattle.larch_lexer.specs.Piece.{piece_at}
use Rattle.larch_lexer.specs.TokenTable.{LexAnswer, with_tokens}
use Rattle.larch_lexer.specs.declared.piece.Piece.{Piece}
use Rattle.larch_lexer.specs.declared.piece.Piece.TheVariants.{Skipped, Kept, Nothing}
use Rattle.larch_lexer.specs.declared.token.Token.{Token}

-- the token that a piece is, by its bytes and its position; what is skipped is none
abbrev pub tokens_of : Piece → List ℕ → Pos → List Token
tokens_of (Kept kind further) bytes position = record { kind = kind; text = bytes; pos = position } ∷ []
tokens_of _ bytes position = []

-- the answer where a piece stands at the front, and how the text goes on behind so many further bytes
abbrev pub led_by : Piece → Pos → List ℕ → (ℕ → LexAnswer) → LexAnswer
led_by (Skipped further) position text onward = onward further
led_by (Kept kind further) position text onward =
    with_tokens (record { kind = kind; text = take (further + 1) text; pos = position } ∷ []) (onward further)
led_by Nothing position text onward = Err position

-- the answer to a text that begins at a position, and with so many bytes of a piece that was taken before
abbrev pub lexed_within : ℕ → Pos → List ℕ → LexAnswer
lexed_within inside position [] = Ok (record { tokens = []; end = position })
lexed_within zero position (byte ∷ rest) =
    led_by (piece_at byte rest) position (byte ∷ rest) (λ inside. lexed_within inside (advance position byte) rest)
lexed_within (suc inside) position (byte ∷ rest) = lexed_within inside (advance position byte) rest

-- the tokens of a text and the position of its end, or the position of the first byte that begins no token
unfoldable pub lexing_of : List ℕ → LexAnswer
lexing_of text = lexed_within 0 start_of_text text

-- where the line of a number begins
abbrev pub start_of_line : ℕ → Pos
start_of_line number = record { line = number; column = 1 }

-- the same of a line by itself, which is the line of a number
unfoldable pub lexed_line : ℕ → List ℕ → LexAnswer
lexed_line number line = lexed_within 0 (start_of_line number) line

-- how many bytes end a line
abbrev pub line_ends : List ℕ → ℕ
line_ends [] = 0
line_ends (byte ∷ bytes) = if byte == 10 then line_ends bytes + 1 else line_ends bytes
