use Rattle.std.proofs.Common.{subst}
use Rattle.larch_models.specs.Stacks.{Adds}
use Rattle.larch_models.proofs.Programs.{computes}
use Rattle.larch_models.proofs.program.program_of.Goals as goal

pub returns : goal.returns
returns c =
    computes c.args.model.now c.args.variables.now c.put_term.new.program.items c.args.term.now
    (subst (λ is. Adds c.args.model.now c.args.variables.now is c.put_term.new.program.items c.args.term.now)
    c.new-program.ensures.items c.in_ok-put_term.ensures)
