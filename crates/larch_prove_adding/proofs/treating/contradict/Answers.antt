use Rattle.std.proofs.Common.{sym, subst}
use Rattle.larch_prove_adding.specs.KeptFacts.{AreSaid}
use Rattle.larch_prove_adding.proofs.Staying.{said_stays}
use Rattle.larch_prove_adding.proofs.treating.contradict.Goals as goal

pub returns-clause-said : goal.returns-clause-said
returns-clause-said c =
    subst (AreSaid c.absurd_line.new.builder) (sym c.contradict.ensures)
    ((said_stays _ _ c.args.facts.now c.in_ok-line.ensures.extends c.requires.said).0, c.in_ok-line.ensures.says)
