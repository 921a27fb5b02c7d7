-- What a refusal of the lexer means.
use Rattle.std.specs.Prelude.{Option, Some, None}
use Rattle.larch_base.specs.declared.position.Pos.{Pos}
use Rattle.larch_lexer.specs.declared.refusal.LexRefusal.{LexRefusal}
use Rattle.larch_lexer.specs.declared.refusal.LexRefusal.TheVariants.{Lex, Memory}

-- the position of the byte that begins no token; out of memory tells none
abbrev pub cause : LexRefusal → Option Pos
cause (Lex position) = Some position
cause Memory = None
