-- The tokens of a line by their texts. Places are counted from 0.
use Rattle.std.specs.Prelude.{ℕ, ◌+◌, ◌==◌, ◌&&◌, Bool, List, [], length, Option, Some, None, option_and_then}
use Rattle.std.specs.Prelude.{false, slice_get, codes}
use Rattle.std.specs.Option.{option_map_or}
use Rattle.std.specs.Str.{bytes_eq}
use Rattle.larch_grammar.specs.Terminal.{terminal_of}
use Rattle.larch_grammar.specs.declared.terminal.Terminal.{Terminal}
use Rattle.larch_grammar.specs.declared.terminal.Terminal.TheVariants.{Word}
use Rattle.larch_lexer.specs.declared.token.Token.{Token}
use Rattle.larch_raw.specs.declared.declared.RawWord.{RawWord}

-- the text of the token at an index; nothing behind the last
abbrev pub text_at : List Token → ℕ → List ℕ
text_at tokens index = option_map_or (λ token. token.text) (slice_get tokens index) []

-- the token at an index has that text
abbrev pub says : List Token → ℕ → List ℕ → Bool
says tokens index text = bytes_eq (text_at tokens index) text

-- two words with a dash between them stand from an index on
abbrev pub says_dashed : List Token → ℕ → List ℕ → List ℕ → Bool
says_dashed tokens index first second =
    says tokens index first && (says tokens (index + 1) (codes "-") && says tokens (index + 2) second)

-- so many tokens are all
abbrev pub ends : List Token → ℕ → Bool
ends tokens index = length tokens == index

-- a word that isn't reserved
abbrev pub plain : Terminal → Option RawWord
plain (Word w) = Some w
plain _ = None

-- the word at an index, unless it is reserved
abbrev pub word_at : List Token → ℕ → Option RawWord
word_at tokens index = option_and_then (λ token. plain (terminal_of false token)) (slice_get tokens index)
