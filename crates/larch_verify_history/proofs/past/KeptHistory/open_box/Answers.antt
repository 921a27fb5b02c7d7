use Rattle.std.proofs.Common.{◌≡◌, Some, None, arith}
use Rattle.std.proofs.lemmas.Grind.{common_steps}
use Rattle.larch_verify_history.specs.Past.{event_of, IsHappened}
use Rattle.larch_verify_history.specs.declared.event.KeptEvent.TheVariants.{Says, Opens, Closes}
use Rattle.larch_verify_history.proofs.LookUps.{open_is, event_within}
use Rattle.larch_verify_history.proofs.past.KeptHistory.open_box.Goals as goal

pub returns-in_default : goal.returns-in_default
returns-in_default c =
    let e : event_of c.args.self.now.places.items c.args.self.now.events.items c.args.number ≡ None =
    grind (arith, common_steps) in
    record {
      known =
          λ p. open_is c.args.self.now.places.items c.args.self.now.events.items c.args.number None c.requires e p;
      within = λ p h. tt;
    }

pub returns-in-Says : goal.returns-in-Says
returns-in-Says c =
    let e : event_of c.args.self.now.places.items c.args.self.now.events.items c.args.number
    ≡ Some (Says c.in-Says.field-0 c.in-Says.field-1) = grind (arith, common_steps) in
    record {
      known =
          λ p. open_is c.args.self.now.places.items c.args.self.now.events.items c.args.number
          (Some (Says c.in-Says.field-0 c.in-Says.field-1)) c.requires e p;
      within = λ p h. tt;
    }

pub returns-in-Opens : goal.returns-in-Opens
returns-in-Opens c =
    let e : event_of c.args.self.now.places.items c.args.self.now.events.items c.args.number
    ≡ Some (Opens c.in-Opens.known) = grind (arith, common_steps) in
    record {
      known =
          λ p. open_is c.args.self.now.places.items c.args.self.now.events.items c.args.number
          (Some (Opens c.in-Opens.known)) c.requires e p;
      within =
          λ p h. event_within (IsHappened p) c.args.self.now.places.items c.args.self.now.events.items c.args.number
          (Opens c.in-Opens.known) h e;
    }

pub returns-in-Closes : goal.returns-in-Closes
returns-in-Closes c =
    let e : event_of c.args.self.now.places.items c.args.self.now.events.items c.args.number
    ≡ Some (Closes c.in-Closes.field-0 c.in-Closes.field-1) = grind (arith, common_steps) in
    record {
      known =
          λ p. open_is c.args.self.now.places.items c.args.self.now.events.items c.args.number
          (Some (Closes c.in-Closes.field-0 c.in-Closes.field-1)) c.requires e p;
      within = λ p h. tt;
    }
