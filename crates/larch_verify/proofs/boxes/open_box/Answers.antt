use Rattle.std.proofs.Common.{◌+◌, ◌∷◌, [], length, map, All, Some, sym, ◌∙◌, ap, subst}
use Rattle.std.specs.Prelude.{IfSome}
use Rattle.std.specs.Option.{option_map}
use Rattle.larch_verify_meaning.specs.Events.{Opened}
use Rattle.larch_verify_history.specs.Past.{IsEquated, equated_in, history_of}
use Rattle.larch_verify_history.proofs.Staying.{history_same, past_stays}
use Rattle.larch_verify.proofs.Opened.{opens_with, opens_not}
use Rattle.larch_verify.proofs.boxes.open_box.Goals as goal

pub returns-in_default-clause-opens : goal.returns-in_default-clause-opens
returns-in_default-clause-opens c =
    opens_not c.args.theory.now (history_of c.args.pool.now c.args.past.now)
    (history_of c.args.pool.now c.begin_box.new.self) (length c.args.past.now.places.items + 1) c.args.parts.now
    c.args.hypotheses.now
    (c.in_ok-begin_box.ensures.history c.args.pool.now
    ∙ ap (λ ps. Opened (record { number = length c.args.past.now.places.items + 1; parts = ps; hypotheses = [] })
    ∷ history_of c.args.pool.now c.args.past.now) c.in_ok-parts.ensures)
    (ap (option_map (map (equated_in c.decode_equations.new.pool))) (sym c.in_default.is)
    ∙ c.in_ok-supposed.ensures.says)

pub returns-clause-past : goal.returns-clause-past
returns-clause-past c = λ _.
    c.in_ok-suppose.ensures.past c.args.theory.now c.decode_equations.new.pool
    (past_stays c.args.theory.now c.args.pool.now c.decode_equations.new.pool c.begin_box.new.self
    (c.in_ok-begin_box.ensures.past c.args.theory.now c.args.pool.now c.requires) c.in_ok-supposed.ensures.grows)
    (subst (λ o. IfSome o (All (IsEquated c.decode_equations.new.pool))) c.in-Some.is c.in_ok-supposed.ensures.within)

pub returns-clause-opens : goal.returns-clause-opens
returns-clause-opens c =
    let e = c.in_ok-begin_box.ensures.history c.args.pool.now
    ∙ ap (λ ps. Opened (record { number = length c.args.past.now.places.items + 1; parts = ps; hypotheses = [] })
    ∷ history_of c.args.pool.now c.args.past.now) c.in_ok-parts.ensures in
    opens_with c.args.theory.now (history_of c.args.pool.now c.args.past.now)
    (history_of c.args.pool.now c.begin_box.new.self) (length c.args.past.now.places.items + 1) c.args.parts.now
    c.args.hypotheses.now (map (equated_in c.decode_equations.new.pool) c.in-Some.supposed) e
    (ap (option_map (map (equated_in c.decode_equations.new.pool))) (sym c.in-Some.is) ∙ c.in_ok-supposed.ensures.says)
    ∙ ap Some
    (sym (c.in_ok-suppose.ensures.history c.decode_equations.new.pool (length c.args.past.now.places.items + 1)
    c.args.parts.now (history_of c.args.pool.now c.args.past.now)
    (history_same c.args.theory.now c.args.pool.now c.decode_equations.new.pool c.begin_box.new.self
    (c.in_ok-begin_box.ensures.past c.args.theory.now c.args.pool.now c.requires) c.in_ok-supposed.ensures.grows ∙ e)))
