use Rattle.std.specs.Prelude.{◌≡◌, ◌∷◌, [], All, IfSome, Ok, map, option_map, refl}
use Rattle.std.proofs.Common.{ap, arith, subst, sym, ◌∙◌}
use Rattle.std.proofs.lemmas.Grind.{common_steps}
use Rattle.std.proofs.lemmas.Result.{err_from_is_err_and}
use Rattle.larch_complete.specs.Work.{stage_in}
use Rattle.larch_complete.proofs.Holding.{first_derivable, first_said, holds_on, holds_taken, rules_are}
use Rattle.larch_complete.proofs.Holding.{stage_stays, stage_taken}
use Rattle.larch_complete.proofs.Going.{next_complete, next_found, next_halts, next_waits}
use Rattle.larch_complete.proofs.rounds.next_equation.Goals as goal
use Rattle.larch_complete_meaning.proofs.Deriving.{found_is_derivable}
use Rattle.larch_complete_pairs.specs.Said.{IsSaid, sides_in}
use Rattle.larch_complete_rounds.specs.Certified.{IsRuleIn}
use Rattle.larch_complete_rounds.specs.Ready.{rules_in}
use Rattle.larch_complete_rounds.specs.Task.{task_in}
use Rattle.larch_derive.specs.Builder.{theory_in}

pub returns-in-Some-clause-next : goal.returns-in-Some-clause-next
returns-in-Some-clause-next c =
    let w : c.args.work.now.waiting.items ≡ c.in-Some.equation ∷ c.pop_front.new.self.items =
    grind (arith, common_steps) in
    next_waits (task_in c.args.task.now) (stage_in c.args.work.now) (sides_in c.in-Some.equation)
    (map sides_in c.pop_front.new.self.items) (ap (map sides_in) w)

pub returns-in-Some-clause-stage : goal.returns-in-Some-clause-stage
returns-in-Some-clause-stage c =
    let w : c.args.work.now.waiting.items ≡ c.in-Some.equation ∷ c.pop_front.new.self.items =
    grind (arith, common_steps) in
    stage_taken c.args.work.now (record c.args.work.now { waiting = c.pop_front.new.self }) c.in-Some.equation
    c.pop_front.new.self.items w refl refl

pub returns-in-Some-clause-said : goal.returns-in-Some-clause-said
returns-in-Some-clause-said c =
    let w : c.args.work.now.waiting.items ≡ c.in-Some.equation ∷ c.pop_front.new.self.items =
    grind (arith, common_steps) in
    first_said _ c.args.work.now c.in-Some.equation c.pop_front.new.self.items c.requires.sound w

pub returns-in-Some-clause-derivable : goal.returns-in-Some-clause-derivable
returns-in-Some-clause-derivable c =
    let w : c.args.work.now.waiting.items ≡ c.in-Some.equation ∷ c.pop_front.new.self.items =
    grind (arith, common_steps) in
    first_derivable _ c.args.work.now c.in-Some.equation c.pop_front.new.self.items c.requires.sound w

pub returns-in-Some-clause-holds : goal.returns-in-Some-clause-holds
returns-in-Some-clause-holds c =
    let w : c.args.work.now.waiting.items ≡ c.in-Some.equation ∷ c.pop_front.new.self.items =
    grind (arith, common_steps) in
    holds_taken _ _ c.args.work.now (record c.args.work.now { waiting = c.pop_front.new.self }) c.in-Some.equation
    c.pop_front.new.self.items c.requires w refl refl refl

pub last_test-requires-clause-equations : goal.last_test-requires-clause-equations
last_test-requires-clause-equations c = c.requires.equations

pub last_test-requires-clause-rules : goal.last_test-requires-clause-rules
last_test-requires-clause-rules c =
    subst (All (λ r. IsRuleIn c.args.work.now.rewriter.builder r.said)) (sym c.as_slice.ensures) c.requires.sound.rules

pub returns-in_err-found-clause-ends : goal.returns-in_err-found-clause-ends
returns-in_err-found-clause-ends c =
    let n : c.args.work.now.waiting.items ≡ [] = grind (arith, common_steps) in
    let p = err_from_is_err_and c.from_residual.result c.from_residual.ensures.1 in
    rw (p.1, p.2)
    (next_halts (task_in c.args.task.now) (stage_in c.args.work.now) (rules_in c.args.work.now.rewriter) _
    (ap (map sides_in) n) c.requires.sound.same c.in_err-found.ensures.halts)

pub returns-in-Some-found-clause-next : goal.returns-in-Some-found-clause-next
returns-in-Some-found-clause-next c =
    let n : c.args.work.now.waiting.items ≡ [] = grind (arith, common_steps) in
    next_found (task_in c.args.task.now) (stage_in c.args.work.now) (rules_in c.args.work.now.rewriter)
    (sides_in c.in-Some-found.equation) (ap (map sides_in) n) c.requires.sound.same
    (c.in_ok-found.ensures.found ∙ ap (λ o. Ok (option_map sides_in o)) c.in-Some-found.is)

pub returns-in-Some-found-clause-stage : goal.returns-in-Some-found-clause-stage
returns-in-Some-found-clause-stage c =
    let n : c.args.work.now.waiting.items ≡ [] = grind (arith, common_steps) in
    let m : c.pop_front.new.self.items ≡ [] = grind (arith, common_steps) in
    stage_stays c.args.work.now
    (record c.args.work.now { rewriter = c.last_test.new.rewriter; waiting = c.pop_front.new.self }) n refl m

pub returns-in-Some-found-clause-said : goal.returns-in-Some-found-clause-said
returns-in-Some-found-clause-said c =
    subst (λ o. IfSome o (IsSaid c.last_test.new.rewriter.builder)) c.in-Some-found.is c.in_ok-found.ensures.says

pub returns-in-Some-found-clause-derivable : goal.returns-in-Some-found-clause-derivable
returns-in-Some-found-clause-derivable c =
    found_is_derivable (theory_in c.args.work.now.rewriter.builder) (task_in c.args.task.now)
    (rules_in c.args.work.now.rewriter) (sides_in c.in-Some-found.equation) c.requires.sound.sorted c.requires.own
    (rules_are _ c.args.work.now c.requires.sound)
    (c.in_ok-found.ensures.found ∙ ap (λ o. Ok (option_map sides_in o)) c.in-Some-found.is)

pub returns-in-Some-found-clause-holds : goal.returns-in-Some-found-clause-holds
returns-in-Some-found-clause-holds c =
    let n : c.args.work.now.waiting.items ≡ [] = grind (arith, common_steps) in
    let m : c.pop_front.new.self.items ≡ [] = grind (arith, common_steps) in
    holds_on _ c.args.task.now c.args.work.now
    (record c.args.work.now { rewriter = c.last_test.new.rewriter; waiting = c.pop_front.new.self }) c.requires
    c.in_ok-found.ensures.extends c.in_ok-found.ensures.ready c.in_ok-found.ensures.rules refl (m ∙ sym n)

pub returns-in-None-clause-ends : goal.returns-in-None-clause-ends
returns-in-None-clause-ends c =
    let n : c.args.work.now.waiting.items ≡ [] = grind (arith, common_steps) in
    next_complete (task_in c.args.task.now) (stage_in c.args.work.now) (rules_in c.args.work.now.rewriter)
    (ap (map sides_in) n) c.requires.sound.same
    (c.in_ok-found.ensures.found ∙ ap (λ o. Ok (option_map sides_in o)) c.in-None.is)
