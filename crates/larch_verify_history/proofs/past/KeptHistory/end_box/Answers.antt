use Rattle.std.proofs.Common.{◌≡◌, ◌++◌, ◌∷◌, [], take, Some, refl, sym, ◌∙◌, ap, subst, arith}
use Rattle.std.specs.Prelude.{reverse}
use Rattle.std.proofs.lemmas.Grind.{common_steps}
use Rattle.larch_verify_history.specs.declared.event.KeptEvent.TheVariants.{Says, Opens, Closes}
use Rattle.larch_verify_history.specs.declared.past.KeptHistory.{KeptHistory}
use Rattle.larch_verify_history.specs.Past.{history_in, IsOpening}
use Rattle.larch_verify_history.proofs.Closing.{cut_known, uncut, ended}
use Rattle.larch_verify_history.proofs.OneMore.{history_push}
use Rattle.larch_verify_history.proofs.Opening.{left_opens}
use Rattle.larch_verify_history.proofs.past.KeptHistory.end_box.Goals as goal

pub returns-in_default-pop-clause-history : goal.returns-in_default-pop-clause-history
returns-in_default-pop-clause-history c = λ t p h.
    let ev : c.args.self.now.events.items
    ≡ c.pop.new.self.items ++ Says c.in-Some-Says.field-0-0 c.in-Some-Says.stated ∷ [] =
    grind (arith, common_steps) in
    let lv : c.args.self.now.levels.items ≡ [] = grind (arith, common_steps) in
    uncut t p c.args.self.now c.pop.new.self.items c.in-Some-Says.field-0-0 c.in-Some-Says.stated h ev lv

pub returns-clause-past : goal.returns-clause-past
returns-clause-past c = λ _ t p h.
    let b : KeptHistory =
    record {
      own = c.args.self.now.own;
      events = c.push-2.new.self;
      places = c.push.new.self;
      levels = c.pop-2.new.self;
    } in
    let ev : c.args.self.now.events.items
    ≡ c.pop.new.self.items ++ Says c.in-Some-Says.field-0-0 c.in-Some-Says.stated ∷ [] =
    grind (arith, common_steps) in
    let lv : c.args.self.now.levels.items ≡ c.pop-2.new.self.items ++ c.in-Some.level ∷ [] =
    grind (arith, common_steps) in
    let tk : take c.in-Some.level c.pop.new.self.items
    ≡ c.take_opening-known.new.events.items ++ Opens c.take_opening-known.result ∷ [] = grind (arith, common_steps) in
    let pl : c.push.new.self.items ≡ c.args.self.now.places.items ++ c.in-Some.level ∷ [] =
    grind (arith, common_steps) in
    let pe : c.push-2.new.self.items
    ≡ c.take_opening-known.new.events.items ++ Closes c.take_opening-known.result c.in-Some-Says.stated ∷ [] =
    grind (arith, common_steps) in
    ended t p c.args.self.now b c.in-Some-Says.field-0-0 c.in-Some-Says.stated c.take_opening-known.new.events.items
    c.take_opening-known.result c.pop-2.new.self.items c.in-Some.level
    (cut_known t p c.args.self.now c.pop.new.self.items c.in-Some-Says.field-0-0 c.in-Some-Says.stated
    c.pop-2.new.self.items c.in-Some.level c.take_opening-known.new.events.items
    c.take_opening-known.result h ev lv tk)
    refl pl pe refl h

pub returns-clause-history : goal.returns-clause-history
returns-clause-history c = λ t p h.
    let ev : c.args.self.now.events.items
    ≡ c.pop.new.self.items ++ Says c.in-Some-Says.field-0-0 c.in-Some-Says.stated ∷ [] =
    grind (arith, common_steps) in
    let lv : c.args.self.now.levels.items ≡ c.pop-2.new.self.items ++ c.in-Some.level ∷ [] =
    grind (arith, common_steps) in
    let tk : take c.in-Some.level c.pop.new.self.items
    ≡ c.take_opening-known.new.events.items ++ Opens c.take_opening-known.result ∷ [] = grind (arith, common_steps) in
    let pe : c.push-2.new.self.items
    ≡ c.take_opening-known.new.events.items ++ Closes c.take_opening-known.result c.in-Some-Says.stated ∷ [] =
    grind (arith, common_steps) in
    (cut_known t p c.args.self.now c.pop.new.self.items c.in-Some-Says.field-0-0 c.in-Some-Says.stated
    c.pop-2.new.self.items c.in-Some.level c.take_opening-known.new.events.items
    c.take_opening-known.result h ev lv tk).history
    ∙ ap Some
    (sym (ap (history_in p) pe ∙ history_push p c.take_opening-known.new.events.items
    (Closes c.take_opening-known.result c.in-Some-Says.stated)))

pub take_opening-known-requires : goal.take_opening-known-requires
take_opening-known-requires c =
    let ev : c.args.self.now.events.items
    ≡ c.pop.new.self.items ++ Says c.in-Some-Says.field-0-0 c.in-Some-Says.stated ∷ [] =
    grind (arith, common_steps) in
    let lv : c.args.self.now.levels.items ≡ c.pop-2.new.self.items ++ c.in-Some.level ∷ [] =
    grind (arith, common_steps) in
    subst (λ es. IsOpening (reverse es)) (sym c.truncate.ensures.items)
    (left_opens c.args.self.now c.pop.new.self.items c.in-Some-Says.field-0-0 c.in-Some-Says.stated
    c.pop-2.new.self.items
    c.in-Some.level c.requires ev lv)
