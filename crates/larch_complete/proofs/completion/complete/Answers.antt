use Rattle.std.specs.Prelude.{All, refl}
use Rattle.std.proofs.Common.{ap, subst, ◌∙◌}
use Rattle.larch_complete.proofs.Holding.{holds_first, holds_own, stage_first}
use Rattle.larch_complete.proofs.Going.{is_completion, whole_decides, whole_derivable}
use Rattle.larch_complete.proofs.completion.complete.Goals as goal
use Rattle.larch_complete_meaning.specs.Completion.{equations_of}
use Rattle.larch_complete_meaning.specs.Rounds.{Task}
use Rattle.larch_complete_rounds.specs.Certified.{IsCertified}
use Rattle.larch_complete_rounds.specs.Task.{task_in}
use Rattle.larch_complete_rounds.proofs.Certifying.{one_theory, same_boxes}
use Rattle.larch_complete_rounds.proofs.Reducing.{ready_still}
use Rattle.larch_term.specs.declared.statement.Theory.{Theory}

pub state_task-requires-clause-theory : goal.state_task-requires-clause-theory
state_task-requires-clause-theory c = c.in_ok-rewriter.ensures.empty.0

pub state_task-requires-clause-stands : goal.state_task-requires-clause-stands
state_task-requires-clause-stands c = c.in_ok-rewriter.ensures.stands c.requires.worded

pub work_through-requires : goal.work_through-requires
work_through-requires c =
    holds_own c.args.theory.now c.in_ok-task.task _
    (holds_first c.args.theory.now c.in_ok-task.task
    (record {
      rewriter = record c.in_ok-rewriter.rewriter { builder = c.state_task.new.builder };
      rules = c.new-2.result;
      waiting = c.in_ok-waiting.waiting;
    }) (one_theory _ _ c.in_ok-task.ensures.extends ∙ c.in_ok-rewriter.ensures.empty.0)
    (same_boxes _ _ c.in_ok-task.ensures.extends ∙ c.in_ok-rewriter.ensures.empty.2)
    (ready_still c.in_ok-rewriter.rewriter
    (record c.in_ok-rewriter.rewriter { builder = c.state_task.new.builder }) c.in_ok-task.ensures.extends refl refl
    c.in_ok-rewriter.ensures.ready) c.in_ok-rewriter.ensures.none c.new-2.ensures
    (c.in_ok-waiting.ensures ∙ c.as_slice.ensures) c.in_ok-task.ensures.said c.requires.sorted
    (ap (λ (k : Task). k.equations) c.in_ok-task.ensures.task))

pub returns-clause-completed : goal.returns-clause-completed
returns-clause-completed c =
    is_completion c.args.theory.now c.args.limit (task_in c.in_ok-task.task) _ _ c.in_ok-task.ensures.task
    (stage_first
    (record {
      rewriter = record c.in_ok-rewriter.rewriter { builder = c.state_task.new.builder };
      rules = c.new-2.result;
      waiting = c.in_ok-waiting.waiting;
    }) c.in_ok-task.task.equations (equations_of c.args.theory.now) c.new-2.ensures
    (c.in_ok-waiting.ensures ∙ c.as_slice.ensures) (ap (λ (k : Task). k.equations) c.in_ok-task.ensures.task))
    c.in_ok-answer.ensures.completed

pub returns-clause-certified : goal.returns-clause-certified
returns-clause-certified c =
    subst (λ (t : Theory). All (IsCertified t) c.work_through.new.work.rules)
    (one_theory _ _ c.in_ok-task.ensures.extends ∙ c.in_ok-rewriter.ensures.empty.0) c.in_ok-answer.ensures.certified

pub returns-clause-derivable : goal.returns-clause-derivable
returns-clause-derivable c =
    whole_derivable c.args.theory.now c.args.limit _ (returns-clause-completed c) c.requires.sorted

pub returns-clause-decided : goal.returns-clause-decided
returns-clause-decided c = whole_decides c.args.theory.now c.args.limit _ (returns-clause-completed c)
