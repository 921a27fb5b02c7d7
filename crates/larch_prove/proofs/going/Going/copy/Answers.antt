-- Its parts are copies.
use Rattle.std.specs.Prelude.{refl}
use Rattle.larch_prove.proofs.Reached.{copied_going}
use Rattle.larch_prove.proofs.going.Going.copy.Goals as goal

pub returns : goal.returns
returns c = λ s p g.
    copied_going c.args.self.now (record {
      alloc = c.args.self.now.alloc;
      claim = c.in_ok-claim.claim;
      work = c.in_ok-work.work;
      commands = c.args.self.now.commands;
    }) s p c.in_ok-claim.ensures.cases c.in_ok-work.ensures refl g
