use Rattle.std.proofs.Common.{sym, subst}
use Rattle.larch_models.specs.Stacks.{Applies}
use Rattle.larch_models.proofs.Programs.{applies}
use Rattle.larch_models.proofs.program.put_operator.Goals as goal

pub returns : goal.returns
returns c =
    subst (Applies c.args.model.now c.args.operator.now c.args.count c.args.program.now.items)
    (sym c.in_ok-push.ensures.items)
    (applies c.args.model.now c.args.operator.now c.args.count c.args.program.now.items c.in_ok-maker.maker
    c.in_ok-maker.ensures)
