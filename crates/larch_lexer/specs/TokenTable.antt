-- The table of tokens, and what the tokens of a text are by it.
use Rattle.std.specs.Prelude.{◌≡◌, ℕ, ◌==◌, ◌&&◌, ◌||◌, not, Bool, true, false, IsTrue, List, [], ◌∷◌, ◌++◌, codes}
use Rattle.std.specs.Prelude.{Result, Ok, Err, All, ◌≢◌}
use Rattle.std.specs.Char.{is_ascii_alphabetic}
use Rattle.std.specs.List.{list_all, list_any}
use Rattle.std.specs.Str.{bytes_eq}
use Rattle.larch_base.specs.Position.{advance, position_behind}
use Rattle.larch_base.specs.Word.{is_word}
use Rattle.larch_base.specs.declared.position.Pos.{Pos}
use Rattle.larch_lexer.specs.TokenList.{TokenList}
use Rattle.larch_lexer.specs.declared.token.Kind.{Kind}
use Rattle.larch_lexer.specs.declared.token.Kind.TheVariants.{Word, Marker, Backslash, Connective, Run, Punctuation}
use Rattle.larch_lexer.specs.declared.token.Token.{Token}

-- the byte is one of these
abbrev pub one_of : List ℕ → ℕ → Bool
one_of bytes byte = list_any (λ other. byte == other) bytes

-- a tab, the end of a line, a carriage return, a space
abbrev pub is_blank : ℕ → Bool
is_blank byte = one_of (9 ∷ 10 ∷ 13 ∷ 32 ∷ []) byte

-- a byte of runs
abbrev pub is_symbol : ℕ → Bool
is_symbol byte = one_of (codes "!#$&*+-/<=>?@^|~") byte

-- a token of one byte
abbrev pub is_punctuation : ℕ → Bool
is_punctuation byte = one_of (codes "()[]{},;:.") byte

-- the list begins with that byte
abbrev pub begins_with : ℕ → List ℕ → Bool
begins_with byte [] = false
begins_with byte (first ∷ bytes) = first == byte

-- a symbol byte may stand in a run, unless it is a / with \ behind it
abbrev pub stands_in_run : ℕ → List ℕ → Bool
stands_in_run byte behind = is_symbol byte && not ((byte == 47) && begins_with 92 behind)

-- each byte passes the test, which also sees what stands behind the byte
abbrev pub each_passes : (ℕ → List ℕ → Bool) → List ℕ → List ℕ → Bool
each_passes test [] behind = true
each_passes test (byte ∷ bytes) behind = test byte (bytes ++ behind) && each_passes test bytes behind

-- \ and one or more letters
abbrev pub is_backslash_word : List ℕ → Bool
is_backslash_word (byte ∷ letter ∷ letters) = (byte == 92) && list_all is_ascii_alphabetic (letter ∷ letters)
is_backslash_word _ = false

-- one or more symbol bytes that may stand there, where some bytes stand behind them
abbrev pub is_run : List ℕ → List ℕ → Bool
is_run [] behind = false
is_run (byte ∷ bytes) behind = each_passes stands_in_run (byte ∷ bytes) behind

-- one byte of punctuation
abbrev pub is_punctuation_mark : List ℕ → Bool
is_punctuation_mark (byte ∷ []) = is_punctuation byte
is_punctuation_mark _ = false

-- the table: the bytes are a token of a kind, where some bytes stand behind them
abbrev pub has_form : Kind → List ℕ → List ℕ → Bool
has_form Word bytes behind = is_word bytes
has_form Marker bytes behind = bytes_eq bytes (codes "__")
has_form Backslash bytes behind = is_backslash_word bytes
has_form Connective bytes behind = bytes_eq bytes (47 ∷ 92 ∷ []) || bytes_eq bytes (92 ∷ 47 ∷ [])
has_form Run bytes behind = is_run bytes behind
has_form Punctuation bytes behind = is_punctuation_mark bytes

-- the front is a token, and no longer front of the same text is one of any kind
pub record Longest (kind : Kind) (front behind : List ℕ) : Type 0 where
  pub has_it : IsTrue (has_form kind front behind)
  pub none_longer : (other : Kind) (more rest : List ℕ)
      → behind ≡ more ++ rest → IsTrue (has_form other (front ++ more) rest) → more ≡ []

-- no front of the text is a token
abbrev pub BeginsNoToken : List ℕ → Type 0
BeginsNoToken text =
    (kind : Kind) (front behind : List ℕ) → text ≡ front ++ behind → has_form kind front behind ≡ false

-- nothing, or a newline and what stands behind it
abbrev pub EndsLine : List ℕ → Type 0
EndsLine [] = Unit {0}
EndsLine (byte ∷ bytes) = byte ≡ 10

-- the tokens of a text, or the position of the first byte that begins none
abbrev pub LexAnswer : Type 0
LexAnswer = Result TokenList Pos

-- the answer with these tokens before its own
abbrev pub with_tokens : List Token → LexAnswer → LexAnswer
with_tokens tokens (Ok all) = Ok (record { tokens = tokens ++ all.tokens; end = all.end })
with_tokens tokens (Err refusal) = Err refusal

-- the answer to a text that begins at a position: blanks and comments are passed over, the longest token is taken
pub data Lexes : Pos → List ℕ → LexAnswer → Type 0 where
  at_end : (position : Pos) → Lexes position [] (Ok (record { tokens = []; end = position }))
  skips_blank : {position : Pos} {byte : ℕ} {rest : List ℕ} {answer : LexAnswer}
      → IsTrue (is_blank byte) → Lexes (advance position byte) rest answer → Lexes position (byte ∷ rest) answer
  skips_comment : {position : Pos} {answer : LexAnswer} (words rest : List ℕ)
      → All (λ byte. byte ≢ 10) words → EndsLine rest → Lexes (position_behind position (37 ∷ words)) rest answer
      → Lexes position (37 ∷ (words ++ rest)) answer
  takes_token : {position : Pos} {answer : LexAnswer} (kind : Kind) (front behind : List ℕ)
      → Longest kind front behind → Lexes (position_behind position front) behind answer
      → Lexes position (front ++ behind) (with_tokens (record {
        kind =
            kind;
        text = front;
        pos = position;
      } ∷ []) answer)
  no_token : (position : Pos) (byte : ℕ) (rest : List ℕ)
      → is_blank byte ≡ false → byte ≢ 37 → BeginsNoToken (byte ∷ rest) → Lexes position (byte ∷ rest) (Err position)
