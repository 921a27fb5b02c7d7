-- Tokens of which the words are words.
use Rattle.std.specs.Prelude.{◌≡◌, IsTrue, List, All}
use Rattle.larch_base.specs.Word.{is_word}
use Rattle.larch_lexer.specs.declared.token.Kind.TheVariants.{Word}
use Rattle.larch_lexer.specs.declared.token.Token.{Token}

-- a token of kind word is a word
abbrev pub IsWordToken : Token → Type 0
IsWordToken token = token.kind ≡ Word → IsTrue (is_word token.text)

-- so is each token of kind word
abbrev pub AreWordTokens : List Token → Type 0
AreWordTokens tokens = All IsWordToken tokens
