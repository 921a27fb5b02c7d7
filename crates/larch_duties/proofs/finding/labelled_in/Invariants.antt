use Rattle.std.proofs.Common.{◌≡◌, drop}
use Rattle.larch_duties.specs.Finding.{labelled_in}
use Rattle.larch_duties.proofs.finding.labelled_in.Given as goal

-- what is left is answered as all things are
abbrev pub invariant-loop-thing : goal.invariant-loop-thing
invariant-loop-thing g l =
    labelled_in l.label (drop l.thing-index l.things) l.text ≡ labelled_in l.fn.first l.things l.text
