-- The line says the instance, and its sides are formed.
use Rattle.std.proofs.Common.{subst, sym}
use Rattle.larch_prove_facts.proofs.Formed.{formed_so}
use Rattle.larch_prove_facts.proofs.instance.form_instance.Goals as goal
use Rattle.larch_prove_facts.specs.Instance.{IsFormed, IsWithin, instance_in}

pub returns-clause-formed : goal.returns-clause-formed
returns-clause-formed c =
    let m = c.requires.may.1 in
    subst (IsFormed c.push_inst.new.builder (instance_in c.args.asked.now) c.args.asked.now.fact)
    (sym c.join_sides.ensures)
    (formed_so c.push_inst.new.builder (instance_in c.args.asked.now) c.args.asked.now.fact c.in-Some.left
    c.in_ok-right.right c.in_ok-line.line
    (subst (IsWithin (instance_in c.args.asked.now).left) c.in-Some.is c.in_ok-left.ensures) c.in_ok-right.ensures
    (c.in_ok-line.ensures.says _ _ m.said m.entries m.different))
