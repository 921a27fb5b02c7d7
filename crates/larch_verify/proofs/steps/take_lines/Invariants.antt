use Rattle.std.proofs.Common.{◌≡◌, drop}
use Rattle.larch_term.specs.declared.statement.Statement.{Statement}
use Rattle.larch_verify_meaning.specs.Acceptance.{verdict_from}
use Rattle.larch_verify_history.specs.Past.{IsPast}
use Rattle.larch_verify.specs.Checking.{AreStatements, state_of}
use Rattle.larch_verify.proofs.steps.take_lines.Given as goal

abbrev pub invariant-loop-line : goal.invariant-loop-line
invariant-loop-line l = record {
  past : IsPast l.theory l.pool l.past;
  axioms : AreStatements l.theory l.pool l.axioms;
  verdict : (s : Statement) → verdict_from l.theory s (state_of l.fn.pool l.fn.past) l.lines
      ≡ verdict_from l.theory s (state_of l.pool l.past) (drop l.line-index l.lines);
}
