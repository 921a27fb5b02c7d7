use Rattle.std.proofs.Common.{◌≡◌, ℕ, ◌+◌, ◌++◌, ◌∷◌, [], length, refl, arith}
use Rattle.std.proofs.lemmas.Grind.{common_steps}
use Rattle.larch_verify_history.specs.declared.event.KeptEvent.TheVariants.{Says}
use Rattle.larch_verify_history.specs.declared.past.KeptHistory.{KeptHistory}
use Rattle.larch_verify_history.proofs.OneMore.{said}
use Rattle.larch_verify_history.proofs.past.KeptHistory.say.Goals as goal

pub returns-clause-past : goal.returns-clause-past
returns-clause-past c = λ t p h w.
    let b : KeptHistory =
    record {
      own = c.args.self.now.own;
      events = c.push-2.new.self;
      places = c.push.new.self;
      levels = c.args.self.now.levels;
    } in
    let n : ℕ = length c.args.self.now.places.items + 1 in
    let pl : c.push.new.self.items ≡ c.args.self.now.places.items ++ length c.args.self.now.events.items ∷ [] =
    grind (arith, common_steps) in
    let ev : c.push-2.new.self.items ≡ c.args.self.now.events.items ++ Says n c.args.stated ∷ [] =
    grind (arith, common_steps) in
    said t p c.args.self.now b n c.args.stated refl pl ev refl refl h w
