use Rattle.std.proofs.Common.{◌≡◌, ◌+◌, ◌++◌, ◌∷◌, [], length, refl, sym, ◌∙◌, ap, subst, arith}
use Rattle.std.specs.Prelude.{reverse}
use Rattle.std.proofs.lemmas.List.{reverse-append}
use Rattle.std.proofs.lemmas.Grind.{common_steps}
use Rattle.larch_verify_history.specs.declared.event.KeptEvent.TheVariants.{Opens}
use Rattle.larch_verify_history.specs.declared.event.KnownBox.{KnownBox}
use Rattle.larch_verify_history.specs.declared.past.KeptHistory.{KeptHistory}
use Rattle.std.proofs.lemmas.List.Elements.{All-nil}
use Rattle.larch_verify_history.specs.Past.{IsEquated, IsOpening}
use Rattle.larch_verify_history.proofs.OneMore.{opened}
use Rattle.larch_verify_history.proofs.past.KeptHistory.begin_box.Goals as goal

pub returns-clause-past : goal.returns-clause-past
returns-clause-past c = λ t p h.
    let b : KeptHistory =
    record {
      own = c.args.self.now.own;
      events = c.push-2.new.self;
      places = c.push.new.self;
      levels = c.push-3.new.self;
    } in
    let k : KnownBox =
    record { number = length c.args.self.now.places.items + 1; parts = c.args.parts; hypotheses = [] } in
    let pl : c.push.new.self.items ≡ c.args.self.now.places.items ++ length c.args.self.now.events.items ∷ [] =
    grind (arith, common_steps) in
    let ev : c.push-2.new.self.items ≡ c.args.self.now.events.items ++ Opens k ∷ [] = grind (arith, common_steps) in
    let lv : c.push-3.new.self.items ≡ c.args.self.now.levels.items ++ length c.push-2.new.self.items ∷ [] =
    grind (arith, common_steps) in
    opened t p c.args.self.now b k refl pl ev lv refl h (All-nil (IsEquated p))

pub returns-clause-opened : goal.returns-clause-opened
returns-clause-opened c =
    let k : KnownBox =
    record { number = length c.args.self.now.places.items + 1; parts = c.args.parts; hypotheses = [] } in
    let ev : c.push-2.new.self.items ≡ c.args.self.now.events.items ++ Opens k ∷ [] = grind (arith, common_steps) in
    subst IsOpening (sym (ap reverse ev ∙ reverse-append c.args.self.now.events.items (Opens k ∷ []))) tt
