use Rattle.std.proofs.Common.{◌≡◌, ◌≤◌, ◌<◌, Some, None, sym, ◌∙◌, ap, arith}
use Rattle.std.specs.Prelude.{reverse}
use Rattle.std.proofs.lemmas.Grind.{common_steps}
use Rattle.larch_base.specs.ByNumber.{numbered}
use Rattle.larch_verify_history.specs.Past.{event_of, IsHappened}
use Rattle.larch_verify_history.specs.Levels.{level}
use Rattle.larch_verify_history.specs.declared.event.KeptEvent.TheVariants.{Says, Opens, Closes}
use Rattle.larch_verify_history.proofs.LookUps.{closed_is, closed_nowhere, closed_outside, event_within}
use Rattle.larch_verify_history.proofs.past.KeptHistory.closed_box.Goals as goal

pub returns-in_default : goal.returns-in_default
returns-in_default c =
    let n : numbered c.args.self.now.places.items c.args.number ≡ None = grind (arith, common_steps) in
    record {
      known =
          λ p. sym (closed_nowhere c.args.self.now.places.items c.args.self.now.events.items c.args.number
          c.requires.index n p);
      within = λ p h. tt;
    }

pub returns-then-place-level : goal.returns-then-place-level
returns-then-place-level c =
    let l : c.in-Some.place < level (reverse c.args.self.now.events.items) =
    omega (arith, c.level.ensures, c.if-place-level.true) in
    record {
      known =
          λ p. sym (closed_outside c.args.self.now.places.items c.args.self.now.events.items c.args.number
          c.in-Some.place
          c.requires.index (sym c.in-Some.ensures) l p);
      within = λ p h. tt;
    }

pub returns-in-Says : goal.returns-in-Says
returns-in-Says c =
    let n : numbered c.args.self.now.places.items c.args.number ≡ Some c.in-Some.place = sym c.in-Some.ensures in
    let l : level (reverse c.args.self.now.events.items) ≤ c.in-Some.place =
    omega (arith, c.level.ensures, c.if-place-level.false) in
    let e : event_of c.args.self.now.places.items c.args.self.now.events.items c.args.number
    ≡ Some (Says c.in-Says.field-0 c.in-Says.field-1) = sym c.in-Some-event.ensures ∙ ap Some c.in-Says.is in
    record {
      known =
          λ p. closed_is c.args.self.now.places.items c.args.self.now.events.items c.args.number c.in-Some.place
          (Some (Says c.in-Says.field-0 c.in-Says.field-1)) c.requires.index n l e p;
      within = λ p h. tt;
    }

pub returns-in-Opens : goal.returns-in-Opens
returns-in-Opens c =
    let n : numbered c.args.self.now.places.items c.args.number ≡ Some c.in-Some.place = sym c.in-Some.ensures in
    let l : level (reverse c.args.self.now.events.items) ≤ c.in-Some.place =
    omega (arith, c.level.ensures, c.if-place-level.false) in
    let e : event_of c.args.self.now.places.items c.args.self.now.events.items c.args.number
    ≡ Some (Opens c.in-Opens.field-0) = sym c.in-Some-event.ensures ∙ ap Some c.in-Opens.is in
    record {
      known =
          λ p. closed_is c.args.self.now.places.items c.args.self.now.events.items c.args.number c.in-Some.place
          (Some (Opens c.in-Opens.field-0)) c.requires.index n l e p;
      within = λ p h. tt;
    }

pub returns-in-Closes : goal.returns-in-Closes
returns-in-Closes c =
    let n : numbered c.args.self.now.places.items c.args.number ≡ Some c.in-Some.place = sym c.in-Some.ensures in
    let l : level (reverse c.args.self.now.events.items) ≤ c.in-Some.place =
    omega (arith, c.level.ensures, c.if-place-level.false) in
    let e : event_of c.args.self.now.places.items c.args.self.now.events.items c.args.number
    ≡ Some (Closes c.in-Closes.known c.in-Closes.stated) = sym c.in-Some-event.ensures ∙ ap Some c.in-Closes.is in
    record {
      known =
          λ p. closed_is c.args.self.now.places.items c.args.self.now.events.items c.args.number c.in-Some.place
          (Some (Closes c.in-Closes.known c.in-Closes.stated)) c.requires.index n l e p;
      within =
          λ p h. event_within (IsHappened p) c.args.self.now.places.items c.args.self.now.events.items c.args.number
          (Closes c.in-Closes.known c.in-Closes.stated) h e;
    }

pub returns-in_default-event : goal.returns-in_default-event
returns-in_default-event c =
    let n : numbered c.args.self.now.places.items c.args.number ≡ Some c.in-Some.place = sym c.in-Some.ensures in
    let l : level (reverse c.args.self.now.events.items) ≤ c.in-Some.place =
    omega (arith, c.level.ensures, c.if-place-level.false) in
    let e : event_of c.args.self.now.places.items c.args.self.now.events.items c.args.number ≡ None =
    grind (arith, common_steps) in
    record {
      known =
          λ p. closed_is c.args.self.now.places.items c.args.self.now.events.items c.args.number c.in-Some.place None
          c.requires.index n l e p;
      within = λ p h. tt;
    }
