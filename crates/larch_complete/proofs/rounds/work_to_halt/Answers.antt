use Rattle.std.specs.Prelude.{All, map, refl}
use Rattle.std.proofs.Common.{ap, subst, sym, ◌∙◌}
use Rattle.larch_complete.specs.Work.{Holds, stage_in}
use Rattle.larch_complete.proofs.Holding.{holds_own}
use Rattle.larch_complete.proofs.Going.{ends_same, last_ends, last_spent, round_ended, round_left, rounds_ended}
use Rattle.larch_complete.proofs.rounds.work_to_halt.Goals as goal
use Rattle.larch_complete_meaning.specs.Completion.{most_equations}
use Rattle.larch_complete_rounds.specs.Certified.{IsCertified, sides_behind}
use Rattle.larch_complete_rounds.specs.Task.{task_in}
use Rattle.larch_derive.specs.Builder.{theory_in}
use Rattle.larch_term.specs.declared.statement.Theory.{Theory}

pub loop-taken-init : goal.loop-taken-init
loop-taken-init c = record { goes = refl; holds = c.requires }

pub go_round-requires : goal.go_round-requires
go_round-requires c = holds_own _ _ _ c.loop-taken.invariant.holds

pub returns-in-Err-clause-ends : goal.returns-in-Err-clause-ends
returns-in-Err-clause-ends c =
    round_ended most_equations c.loop-taken._taken (task_in c.args.task.now) (stage_in c.args.work.now)
    (stage_in c.loop-taken.work) (map sides_behind c.go_round.new.work.rules) c.in-Err.halt c.loop-taken-test.true
    c.loop-taken.invariant.goes c.in-Err.ensures.ends

pub returns-in-Err-clause-certified : goal.returns-in-Err-clause-certified
returns-in-Err-clause-certified c =
    subst (λ (t : Theory). All (IsCertified t) c.go_round.new.work.rules)
    c.loop-taken.invariant.holds.sound.theory_is c.in-Err.ensures.certified

pub loop-taken-preserved : goal.loop-taken-preserved
loop-taken-preserved c = record {
  goes = round_left most_equations c.loop-taken._taken (task_in c.args.task.now) (stage_in c.args.work.now)
      (stage_in c.loop-taken.work) (stage_in c.go_round.new.work) c.loop-taken-test.true
      c.loop-taken.invariant.goes c.in_default.ensures.goes;
  holds = subst (λ (t : Theory). Holds t c.args.task.now c.go_round.new.work)
      c.loop-taken.invariant.holds.sound.theory_is c.in_default.ensures.holds;
}

pub next_equation-requires : goal.next_equation-requires
next_equation-requires c = holds_own _ _ _ c.loop-taken.invariant.holds

pub returns-in-Ok-clause-ends : goal.returns-in-Ok-clause-ends
returns-in-Ok-clause-ends c =
    rounds_ended most_equations c.loop-taken._taken (task_in c.args.task.now) (stage_in c.args.work.now)
    (stage_in c.loop-taken.work) c.loop-taken-test.false c.loop-taken.invariant.goes
    ∙ last_spent (task_in c.args.task.now) (stage_in c.loop-taken.work)
    (map sides_behind c.next_equation.new.work.rules) _ (ap (map sides_behind) c.in-Ok.ensures.rules)
    c.in-Ok.ensures.next

pub returns-in-Ok-clause-certified : goal.returns-in-Ok-clause-certified
returns-in-Ok-clause-certified c =
    subst (All (IsCertified (theory_in c.args.work.now.rewriter.builder))) (sym c.in-Ok.ensures.rules)
    c.loop-taken.invariant.holds.sound.certified

pub returns-clause-ends : goal.returns-clause-ends
returns-clause-ends c =
    ends_same _ _ (map sides_behind c.next_equation.new.work.rules) _
    (rounds_ended most_equations c.loop-taken._taken (task_in c.args.task.now) (stage_in c.args.work.now)
    (stage_in c.loop-taken.work) c.loop-taken-test.false c.loop-taken.invariant.goes)
    (last_ends (task_in c.args.task.now) (stage_in c.loop-taken.work)
    (map sides_behind c.next_equation.new.work.rules) _ (ap (map sides_behind) c.in-Err-next_equation.ensures.rules)
    c.in-Err-next_equation.ensures.ends)

pub returns-clause-certified : goal.returns-clause-certified
returns-clause-certified c =
    subst (All (IsCertified (theory_in c.args.work.now.rewriter.builder)))
    (sym c.in-Err-next_equation.ensures.rules) c.loop-taken.invariant.holds.sound.certified
