-- Which of two flaws stands where tokens are no trait, whether references follow `implies` or not.
use Rattle.std.specs.Prelude.{Bool, true, false, not, cond, nat_lt, ◌==◌, ◌&&◌, ◌||◌, Option, Some, None, List, [], ◌∷◌}
use Rattle.larch_base.specs.declared.position.Pos.{Pos}
use Rattle.larch_lexer.specs.TokenList.{TokenList}
use Rattle.larch_lexer.specs.declared.token.Token.{Token}
use Rattle.larch_grammar_law.specs.Claims.{position_or}
use Rattle.larch_grammar_law.specs.declared.mark.Flaw.{Flaw}
use Rattle.larch_grammar_law.specs.declared.mark.Flaw.TheVariants.{Syntax}
use Rattle.larch_grammar.specs.declared.terminal.Terminal.{Terminal}
use Rattle.larch_grammar.specs.declared.terminal.Terminal.TheVariants.{Implies}
use Rattle.larch_grammar.specs.Leading.{behind_first, ends_references}
use Rattle.larch_grammar.specs.Terminal.{terminal_of}

-- a token as a terminal
abbrev pub known : Token → Terminal
known token = terminal_of false token

-- where a token stands
abbrev pub position_of_token : Token → Pos
position_of_token token = token.pos

-- a position stands before another one
abbrev pub earlier : Pos → Pos → Bool
earlier p q = nat_lt p.line q.line || (p.line == q.line && nat_lt p.column q.column)

-- it is `implies`
abbrev pub is_implies : Terminal → Bool
is_implies (Implies lists) = true
is_implies _ = false

-- the tokens behind `implies`
abbrev pub implied_tokens : List Token → List Token
implied_tokens [] = []
implied_tokens (t ∷ ts) = cond (is_implies (known t)) ts (implied_tokens ts)

-- a list of references ends before these tokens or goes on with them, and this place isn't before the first of them
abbrev pub reaches_end : Pos → Pos → Option (List Token) → Bool
reaches_end place end None = false
reaches_end place end (Some ts) = ends_references known ts && not (earlier place (position_or position_of_token end ts))

-- what stands behind `implies` begins with a reference, and this place isn't inside its parenthesis
abbrev pub reaches : TokenList → Pos → Bool
reaches tokens place = reaches_end place tokens.end (behind_first known (implied_tokens tokens.tokens))

-- it is MIXED, DEEP or SIZE
abbrev pub is_counted : Flaw → Bool
is_counted Syntax = false
is_counted _ = true

-- the flaw where an item follows `implies`, and the one where references follow: the latter where the first reference
-- is read to its end; else the former where it is counted; else the one that stands later
abbrev pub which : TokenList → Flaw × Pos → Flaw × Pos → Flaw × Pos
which tokens item list =
    cond (reaches tokens list.1) list (cond (is_counted item.0) item (cond (earlier item.1 list.1) list item))
