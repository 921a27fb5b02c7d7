use Rattle.std.proofs.Common.{◌≡◌, ◌≤◌, ◌+◌, length}
use Rattle.larch_lexer.specs.Lexing.{lexed_within, line_ends}
use Rattle.larch_lexer.specs.TokenTable.{with_tokens}
use Rattle.larch_lexer.proofs.lex.lex_from.Given as goal

-- the tokens so far and the answer to what is left make up the whole answer
abbrev pub invariant-loop-rest : goal.invariant-loop-rest
invariant-loop-rest l = record {
  same : with_tokens l.tokens (lexed_within 0 l.pos l.rest) ≡ lexed_within 0 l.fn.start l.text;
  line : l.pos.line + line_ends l.rest ≤ l.fn.start.line + line_ends l.text;
  column : l.pos.column + length l.rest ≤ l.fn.start.column + length l.text;
}

abbrev pub decreases-loop-rest : goal.decreases-loop-rest
decreases-loop-rest l = length l.rest
