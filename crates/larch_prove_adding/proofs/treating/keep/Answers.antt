use Rattle.larch_prove_adding.proofs.Staying.{equations_stay, said_stays}
use Rattle.larch_prove_adding.proofs.treating.keep.Goals as goal

pub returns-clause-said : goal.returns-clause-said
returns-clause-said c =
    c.in_ok-put_part.ensures.said c.orient_equation.new.builder
    (said_stays _ _ c.args.facts.now c.in_ok-rule.ensures.extends c.requires.said) c.in_ok-rule.ensures.says

pub returns-clause-waiting : goal.returns-clause-waiting
returns-clause-waiting c =
    equations_stay _ _ c.args.adding.now.waiting.items c.in_ok-rule.ensures.extends c.requires.waiting
