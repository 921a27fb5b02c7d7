use Rattle.std.proofs.Common.{◌≡◌, ◌++◌, ◌∷◌, [], refl, arith}
use Rattle.std.proofs.lemmas.Grind.{common_steps}
use Rattle.larch_verify_history.specs.declared.event.KeptEvent.TheVariants.{Opens}
use Rattle.larch_verify_history.specs.declared.event.KnownBox.{KnownBox}
use Rattle.larch_verify_history.specs.declared.past.KeptHistory.{KeptHistory}
use Rattle.larch_verify_history.proofs.OneMore.{supposed}
use Rattle.larch_verify_history.proofs.past.KeptHistory.suppose.Goals as goal

pub returns-clause-past : goal.returns-clause-past
returns-clause-past c = λ t p x h.
    let a : KeptHistory = c.args.self.now in
    let b : KeptHistory = record { own = a.own; events = c.push.new.self; places = a.places; levels = a.levels } in
    let known : KnownBox = c.take_opening-number.result in
    let d : KnownBox =
    record { number = known.number; parts = known.parts; hypotheses = c.args.hypotheses } in
    let ev : c.push.new.self.items ≡ c.take_opening-number.new.events.items ++ Opens d ∷ [] =
    grind (arith, common_steps) in
    supposed t p a b c.take_opening-number.new.events.items known c.args.hypotheses c.take_opening-number.ensures ev
    refl refl refl x h
