use Rattle.std.specs.Prelude.{◌≡◌, ◌-◌}
use Rattle.larch_complete.specs.Work.{Holds, rounds_from, stage_in}
use Rattle.larch_complete.proofs.rounds.work_to_halt.Given as goal
use Rattle.larch_complete_meaning.specs.Completion.{most_equations}
use Rattle.larch_complete_rounds.specs.Task.{task_in}
use Rattle.larch_derive.specs.Builder.{theory_in}

-- the rounds that are left come to what all come to
abbrev pub invariant-loop-taken : goal.invariant-loop-taken
invariant-loop-taken l = record {
  goes : rounds_from (most_equations - l._taken) (task_in l.task) (stage_in l.work)
      ≡ rounds_from most_equations (task_in l.task) (stage_in l.fn.work);
  holds : Holds (theory_in l.fn.work.rewriter.builder) l.task l.work;
}
