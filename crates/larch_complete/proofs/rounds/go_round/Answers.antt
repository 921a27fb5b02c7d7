use Rattle.std.specs.Prelude.{All, IfSome, Ok, map, option_map, refl}
use Rattle.std.proofs.Common.{ap, subst, sym, ◌∙◌}
use Rattle.std.proofs.lemmas.Result.{err_from_is_err_and}
use Rattle.larch_complete.specs.Work.{IsSound, rounds_from, stage_in}
use Rattle.larch_complete.proofs.Holding.{holds_on, rules_are, sound_own}
use Rattle.larch_complete.proofs.Going.{dropped, ends_same, made, next_ends, settle_ends}
use Rattle.larch_complete.proofs.rounds.go_round.Goals as goal
use Rattle.larch_complete_meaning.specs.Completion.{IsRuleOf}
use Rattle.larch_complete_meaning.proofs.Deriving.{settled_is_rule}
use Rattle.larch_complete_pairs.specs.Said.{IsSaid, sides_in}
use Rattle.larch_complete_rounds.specs.Certified.{IsCertified, sides_behind}
use Rattle.larch_complete_rounds.specs.Ready.{IsSmall, rules_in}
use Rattle.larch_complete_rounds.specs.Task.{task_in}
use Rattle.larch_complete_rounds.proofs.Certifying.{equations_stay}
use Rattle.larch_derive.specs.Builder.{theory_in}
use Rattle.larch_term.specs.declared.statement.Theory.{Theory}

pub returns-in_err-equation-clause-ends : goal.returns-in_err-equation-clause-ends
returns-in_err-equation-clause-ends c =
    let p = err_from_is_err_and c.from_residual.result c.from_residual.ensures.1 in
    rw (p.1, p.2)
    (λ n. next_ends n (task_in c.args.task.now) (stage_in c.args.work.now)
    (map sides_behind c.next_equation.new.work.rules) _ (ap (map sides_behind) c.in_err-equation.ensures.rules)
    c.in_err-equation.ensures.ends)

pub returns-in_err-equation-clause-certified : goal.returns-in_err-equation-clause-certified
returns-in_err-equation-clause-certified c =
    subst (All (IsCertified (theory_in c.args.work.now.rewriter.builder))) (sym c.in_err-equation.ensures.rules)
    c.requires.sound.certified

pub settle-requires-clause-ready : goal.settle-requires-clause-ready
settle-requires-clause-ready c = c.in_ok-equation.ensures.holds.sound.ready

pub returns-in_err-settled-clause-ends : goal.returns-in_err-settled-clause-ends
returns-in_err-settled-clause-ends c =
    let p = err_from_is_err_and c.from_residual-in_err-settled.result c.from_residual-in_err-settled.ensures.1 in
    rw (p.1, p.2)
    (λ n. settle_ends n (task_in c.args.task.now) (stage_in c.args.work.now)
    (map sides_behind c.next_equation.new.work.rules) (rules_in c.next_equation.new.work.rewriter)
    (sides_in c.in_ok-equation.equation) _ c.in_ok-equation.ensures.next c.in_ok-equation.ensures.holds.sound.same
    (ap (map sides_behind) c.in_ok-equation.ensures.rules) c.in_err-settled.ensures.halts)

pub returns-in_err-settled-clause-certified : goal.returns-in_err-settled-clause-certified
returns-in_err-settled-clause-certified c = c.in_ok-equation.ensures.holds.sound.certified

pub returns-in_default-clause-goes : goal.returns-in_default-clause-goes
returns-in_default-clause-goes c n =
    dropped n (task_in c.args.task.now) (stage_in c.args.work.now) (stage_in c.next_equation.new.work)
    (rules_in c.next_equation.new.work.rewriter) (sides_in c.in_ok-equation.equation) c.in_ok-equation.ensures.next
    (c.in_ok-equation.ensures.holds.sound.same ∙ ap (map sides_behind) c.in_ok-equation.ensures.rules)
    (c.in_ok-settled.ensures.settled ∙ ap (λ o. Ok (option_map sides_in o)) c.in_default.is)
    c.in_ok-equation.ensures.stage

pub returns-in_default-clause-holds : goal.returns-in_default-clause-holds
returns-in_default-clause-holds c =
    holds_on _ c.args.task.now c.next_equation.new.work
    (record c.next_equation.new.work { rewriter = c.settle.new.rewriter }) c.in_ok-equation.ensures.holds
    c.in_ok-settled.ensures.extends c.in_ok-settled.ensures.ready c.in_ok-settled.ensures.rules refl refl

pub returns-in_default-clause-certified : goal.returns-in_default-clause-certified
returns-in_default-clause-certified c = c.in_ok-equation.ensures.holds.sound.certified

pub add_rule-requires-clause-sound : goal.add_rule-requires-clause-sound
add_rule-requires-clause-sound c =
    let h = holds_on _ c.args.task.now c.next_equation.new.work
    (record c.next_equation.new.work { rewriter = c.settle.new.rewriter }) c.in_ok-equation.ensures.holds
    c.in_ok-settled.ensures.extends c.in_ok-settled.ensures.ready c.in_ok-settled.ensures.rules refl refl in
    sound_own _ _ h.sound

pub add_rule-requires-clause-said : goal.add_rule-requires-clause-said
add_rule-requires-clause-said c =
    subst (λ o. IfSome o (IsSaid c.settle.new.rewriter.builder)) c.in-Some.is c.in_ok-settled.ensures.says

pub add_rule-requires-clause-small : goal.add_rule-requires-clause-small
add_rule-requires-clause-small c = subst (λ o. IfSome o IsSmall) c.in-Some.is c.in_ok-settled.ensures.small

pub add_rule-requires-clause-derivable : goal.add_rule-requires-clause-derivable
add_rule-requires-clause-derivable c =
    let h = holds_on _ c.args.task.now c.next_equation.new.work
    (record c.next_equation.new.work { rewriter = c.settle.new.rewriter }) c.in_ok-equation.ensures.holds
    c.in_ok-settled.ensures.extends c.in_ok-settled.ensures.ready c.in_ok-settled.ensures.rules refl refl in
    subst (λ (t : Theory). IsRuleOf t (sides_in c.in-Some.rule)) (sym h.sound.theory_is)
    (settled_is_rule (theory_in c.args.work.now.rewriter.builder) (task_in c.args.task.now)
    (rules_in c.next_equation.new.work.rewriter) (sides_in c.in_ok-equation.equation) (sides_in c.in-Some.rule)
    (rules_are _ c.next_equation.new.work c.in_ok-equation.ensures.holds.sound) c.in_ok-equation.ensures.derivable
    (c.in_ok-settled.ensures.settled ∙ ap (λ o. Ok (option_map sides_in o)) c.in-Some.is))

pub returns-in_err-add_rule-clause-ends : goal.returns-in_err-add_rule-clause-ends
returns-in_err-add_rule-clause-ends c =
    let p = err_from_is_err_and c.from_residual-in_err-add_rule.result c.from_residual-in_err-add_rule.ensures.1 in
    rw (p.1, p.2)
    (λ n. ends_same _ _ (map sides_behind c.add_rule.new.work.rules) _
    (made n (task_in c.args.task.now) (stage_in c.args.work.now) (stage_in c.next_equation.new.work)
    (rules_in c.next_equation.new.work.rewriter) (sides_in c.in_ok-equation.equation) (sides_in c.in-Some.rule)
    c.in_ok-equation.ensures.next
    (c.in_ok-equation.ensures.holds.sound.same ∙ ap (map sides_behind) c.in_ok-equation.ensures.rules)
    (c.in_ok-settled.ensures.settled ∙ ap (λ o. Ok (option_map sides_in o)) c.in-Some.is)
    c.in_ok-equation.ensures.stage)
    (c.in_err-add_rule.ensures.ends (rounds_from n (task_in c.args.task.now))))

pub returns-in_err-add_rule-clause-certified : goal.returns-in_err-add_rule-clause-certified
returns-in_err-add_rule-clause-certified c =
    let h = holds_on _ c.args.task.now c.next_equation.new.work
    (record c.next_equation.new.work { rewriter = c.settle.new.rewriter }) c.in_ok-equation.ensures.holds
    c.in_ok-settled.ensures.extends c.in_ok-settled.ensures.ready c.in_ok-settled.ensures.rules refl refl in
    subst (λ (t : Theory). All (IsCertified t) c.add_rule.new.work.rules) h.sound.theory_is
    c.in_err-add_rule.ensures.certified

pub returns-clause-goes : goal.returns-clause-goes
returns-clause-goes c n =
    made n (task_in c.args.task.now) (stage_in c.args.work.now) (stage_in c.next_equation.new.work)
    (rules_in c.next_equation.new.work.rewriter) (sides_in c.in_ok-equation.equation) (sides_in c.in-Some.rule)
    c.in_ok-equation.ensures.next
    (c.in_ok-equation.ensures.holds.sound.same ∙ ap (map sides_behind) c.in_ok-equation.ensures.rules)
    (c.in_ok-settled.ensures.settled ∙ ap (λ o. Ok (option_map sides_in o)) c.in-Some.is)
    c.in_ok-equation.ensures.stage
    ∙ c.in_ok-add_rule.ensures.goes (rounds_from n (task_in c.args.task.now))

pub returns-clause-holds : goal.returns-clause-holds
returns-clause-holds c =
    let h = holds_on _ c.args.task.now c.next_equation.new.work
    (record c.next_equation.new.work { rewriter = c.settle.new.rewriter }) c.in_ok-equation.ensures.holds
    c.in_ok-settled.ensures.extends c.in_ok-settled.ensures.ready c.in_ok-settled.ensures.rules refl refl in
    record {
      sound = subst (λ (t : Theory). IsSound t c.add_rule.new.work) h.sound.theory_is c.in_ok-add_rule.ensures.sound;
      equations = equations_stay _ _ c.args.task.now.equations c.in_ok-add_rule.ensures.extends h.equations;
      own = h.own;
    }

pub returns-clause-certified : goal.returns-clause-certified
returns-clause-certified c =
    let h = holds_on _ c.args.task.now c.next_equation.new.work
    (record c.next_equation.new.work { rewriter = c.settle.new.rewriter }) c.in_ok-equation.ensures.holds
    c.in_ok-settled.ensures.extends c.in_ok-settled.ensures.ready c.in_ok-settled.ensures.rules refl refl in
    subst (λ (t : Theory). All (IsCertified t) c.add_rule.new.work.rules) h.sound.theory_is
    c.in_ok-add_rule.ensures.certified
