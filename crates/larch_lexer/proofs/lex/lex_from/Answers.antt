-- The invariant goes on by one piece.
use Rattle.std.proofs.Common.{◌+◌, ◌∙◌, arith}
use Rattle.larch_lexer.proofs.Positions.{line_of_taken, column_behind}
use Rattle.larch_lexer.proofs.Steps.{same_on}
use Rattle.larch_lexer.proofs.Straight.{piece_behind, first_ends}
use Rattle.larch_lexer.proofs.lex.lex_from.Goals as goal

pub loop-rest-preserved : goal.loop-rest-preserved
loop-rest-preserved c =
    let before = c.loop-rest in
    let taken = c.split_at.result.0.now in
    let cut = c.split_at.ensures in
    let next = c.pos_behind-pos.ensures
    ∙ piece_behind before.pos before.rest.now taken c.piece_at-piece.result c.in-Some.further
    (omega arith) c.piece_at-piece.ensures.piece c.in-Some.ensures cut.front in
    record {
      same =
          same_on before.tokens c.push_token.new.tokens before.pos c.pos_behind-pos.result before.rest.now taken
          c.split_at.result.1.now c.piece_at-piece.result c.in-Some.further
          (omega arith) c.piece_at-piece.ensures.piece c.in-Some.ensures cut.front cut.back c.in_ok-push_token.ensures
          next ∙ before.invariant.same;
      line =
          rw (next, cut.front, cut.back)
          (omega (arith, line_of_taken before.pos (c.in-Some.further + 1) before.rest.now));
      column = rw next (omega (arith, column_behind before.pos taken));
    }

-- a newline at the front is among the ends of lines that are left
pub pos_behind-pos-requires-clause-line : goal.pos_behind-pos-requires-clause-line
pos_behind-pos-requires-clause-line c newline =
    let before = c.loop-rest in
    omega (arith, first_ends before.rest.now (omega arith) newline, before.invariant.line, c.requires.line)
