-- The tokens of a text, as contracts see them.
use Rattle.std.specs.Prelude.{List}
use Rattle.larch_base.specs.declared.position.Pos.{Pos}
use Rattle.larch_lexer.specs.declared.token.Token.{Token}

-- the tokens in order, and the position where the next byte of the text would stand
pub record TokenList : Type 0 where
  pub tokens : List Token
  pub end : Pos
