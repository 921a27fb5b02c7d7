use Rattle.larch_derive.proofs.Codes.{equation_step, generated_step, partitioned_step}
use Rattle.larch_derive.proofs.coding.code_equations.Goals as goal
use Rattle.larch_derive.proofs.coding.code_equations.Goals.{in-Equation+in_ok-left-in-Equation+in_ok-right-in-Equation+in_ok-push-in-Equation}
use Rattle.larch_derive.proofs.coding.code_equations.Goals.{in-Generated, in-Partitioned}

pub loop-statement-preserved : goal.loop-statement-preserved
loop-statement-preserved c =
    elim c.match-statement.branch [
      | in-Equation+in_ok-left-in-Equation+in_ok-right-in-Equation+in_ok-push-in-Equation w ↦
          rw (w.equations-is, w.in_ok-push-in-Equation.ensures.ok)
          (equation_step c.args.boxes.now c.args.theory.now.operators c.args.statements.now
          c.loop-statement.statement-index
          c.loop-statement.equations c.statement-item.result _ w.in-Equation.left w.in-Equation.right
          c.loop-statement-test.true c.statement-item.is w.in-Equation.is c.loop-statement.invariant
          w.in_ok-left-in-Equation.ensures w.in_ok-right-in-Equation.ensures)
      | in-Generated w ↦
          rw w.equations-is
          (generated_step c.args.boxes.now c.args.theory.now.operators c.args.statements.now
          c.loop-statement.statement-index
          c.loop-statement.equations c.statement-item.result w.in-Generated.field-0 w.in-Generated.field-1
          c.loop-statement-test.true c.statement-item.is w.in-Generated.is c.loop-statement.invariant)
      | in-Partitioned w ↦
          rw w.equations-is
          (partitioned_step c.args.boxes.now c.args.theory.now.operators c.args.statements.now
          c.loop-statement.statement-index
          c.loop-statement.equations c.statement-item.result w.in-Partitioned.field-0 w.in-Partitioned.field-1
          c.loop-statement-test.true c.statement-item.is w.in-Partitioned.is c.loop-statement.invariant)
    ]
