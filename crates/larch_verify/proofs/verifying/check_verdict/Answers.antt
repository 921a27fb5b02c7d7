use Rattle.std.proofs.Common.{map, Some, ◌∙◌, ap}
use Rattle.larch_verify.proofs.verifying.check_verdict.Goals as goal

pub by_lines-requires-clause-past : goal.by_lines-requires-clause-past
by_lines-requires-clause-past c =
    c.new-past.ensures.past c.args.theory.now c.intern_operators.new.pool
    (c.in_ok-own.ensures.numbers ∙ ap (map Some) c.as_slice.ensures)
