use Rattle.std.proofs.Common.{List, drop}
use Rattle.std.specs.List.{AllZip}
use Rattle.larch_term.specs.Tree.{Tree}
use Rattle.larch_calculus.specs.Observation.{Observation}
use Rattle.larch_methods.specs.Observers.{HasShorterNames, ShowsObservation}
use Rattle.larch_methods.proofs.Observing.{ObservedSoFar}
use Rattle.larch_methods.proofs.partition.push_all_observed.Given as goal

-- the boxes so far have their lines
abbrev pub invariant-loop-observed : goal.invariant-loop-observed
invariant-loop-observed l =
    (left right : Tree) (ws : List Observation) → HasShorterNames l.letters left → HasShorterNames l.letters right
    → AllZip (ShowsObservation l.initial.builder left right) ws l.boxes
    → ObservedSoFar l.initial.builder l.builder left right ws (drop l.observed-index l.boxes) l.lines
