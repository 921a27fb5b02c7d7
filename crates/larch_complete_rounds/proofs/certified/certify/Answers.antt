use Rattle.std.proofs.Common.{ap}
use Rattle.larch_complete_rounds.proofs.Certifying.{finished}
use Rattle.larch_complete_rounds.proofs.certified.certify.Goals as goal
use Rattle.larch_derive.specs.Builder.{lines_in}

pub returns-clause-certified : goal.returns-clause-certified
returns-clause-certified c =
    finished c.args.builder.now c.push_again.new.builder _ _ _ _ (c.in_ok-line.ensures.extends _ _ c.requires.said)
    c.requires.boxes (c.in_ok-line.ensures.says _ _ c.requires.said) c.in_ok-line.ensures.last
    (ap lines_in c.in_ok-proof.ensures)
