use Rattle.std.proofs.Common.{sym, subst}
use Rattle.larch_flat_gathering.specs.Keeping.{Leaves}
use Rattle.larch_flat.proofs.Parts.{parts_taken}
use Rattle.larch_flat.proofs.taking.take_flat.Goals as goal

pub returns : goal.returns
returns c = λ g k.
    subst (Leaves c.take_new.new.store c.take_new.result)
    (sym (parts_taken c.args.reference.now c.args.formals.now c.args.operators.now c.args.marked.now g c.in_ok-by.by
    c.in_ok-by.ensures))
    (c.take_new.ensures g k)
