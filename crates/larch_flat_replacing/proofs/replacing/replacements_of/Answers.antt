use Rattle.std.proofs.Common.{sym, subst}
use Rattle.larch_base.specs.Answering.{Answers}
use Rattle.larch_flat_meaning.specs.TraitsItemsRefusal.{cause}
use Rattle.larch_flat_replacing.proofs.Steps.{replacements_told}
use Rattle.larch_flat_replacing.proofs.replacing.replacements_of.Goals as goal

pub returns : goal.returns
returns c =
    subst (Answers cause c.check_reference.result)
    (sym (replacements_told c.args.operators.now c.args.formals.now c.args.reference.now)) c.check_reference.ensures
