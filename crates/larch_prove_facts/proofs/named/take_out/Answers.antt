-- The facts that have another name are those of the proof without this one.
use Rattle.larch_prove_facts.proofs.Worked.{stands_without}
use Rattle.larch_prove_facts.proofs.named.take_out.Goals as goal

pub returns-clause-stands : goal.returns-clause-stands
returns-clause-stands c t s store p k ks w =
    stands_without t s store c.args.draft.now p k ks w c.args.name.now c.in_ok-others.others
    c.in_ok-others.ensures.facts c.in_ok-others.ensures.kept c.in_ok-others.ensures.said
