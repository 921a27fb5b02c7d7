use Rattle.std.proofs.Common.{◌+◌, ◌∷◌, length, Some, sym, ◌∙◌, ap, subst}
use Rattle.std.specs.Prelude.{IfSome}
use Rattle.std.specs.Option.{option_map}
use Rattle.larch_verify_meaning.specs.Events.{Said}
use Rattle.larch_verify_history.specs.Past.{IsStated, stated_in, history_of}
use Rattle.larch_verify_history.proofs.Staying.{history_same, past_stays}
use Rattle.larch_verify.proofs.steps.say_line.Goals as goal

pub returns-clause-past : goal.returns-clause-past
returns-clause-past c = λ _.
    c.in_ok-say.ensures.past c.args.theory.now c.judge.new.pool
    (past_stays c.args.theory.now c.args.pool.now c.judge.new.pool c.args.past.now c.requires.past
    c.in_ok-stated.ensures.grows)
    (subst (λ o. IfSome o (IsStated c.judge.new.pool)) c.in-Some.is c.in_ok-stated.ensures.within)

pub returns-clause-says : goal.returns-clause-says
returns-clause-says c =
    sym
    (ap
    (option_map (λ s. Said (length c.args.past.now.places.items + 1) s
    ∷ history_of c.args.pool.now c.args.past.now))
    (ap (option_map (stated_in c.judge.new.pool)) (sym c.in-Some.is) ∙ c.in_ok-stated.ensures.says))
    ∙ ap Some (sym (c.in_ok-say.ensures.history c.judge.new.pool
    ∙ ap (λ h. Said (length c.args.past.now.places.items + 1) (stated_in c.judge.new.pool c.in-Some.stated) ∷ h)
    (history_same c.args.theory.now c.args.pool.now c.judge.new.pool c.args.past.now c.requires.past
    c.in_ok-stated.ensures.grows)))
