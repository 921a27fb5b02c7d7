use Rattle.std.proofs.Common.{subst, sym}
use Rattle.larch_derive.specs.Predicates.{Known}
use Rattle.larch_derive.proofs.Growth.{extends_grows}
use Rattle.larch_prove_boxes.proofs.Entrances.{bare_entrance}
use Rattle.larch_prove_boxes.proofs.entering.enter_bare.Goals as goal

pub returns : goal.returns
returns c method g e q h k =
    let known = subst (Known c.args.builder.now) (sym e) k in
    bare_entrance _ _ method g c.args.goal.now _ _ e q h c.new.ensures
    (extends_grows _ _ (c.in_ok-way.ensures.extends known)) (c.in_ok-way.ensures.says known)
