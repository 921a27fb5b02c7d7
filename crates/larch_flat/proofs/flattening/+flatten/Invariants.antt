use Rattle.std.proofs.Common.{◌≡◌, ◌+◌, ◌*◌, drop}
use Rattle.larch_base_meaning.specs.Steps.{all_taken}
use Rattle.larch_flat_sources.specs.FlatMeaningGathered.{Gathered, nothing}
use Rattle.larch_flat_gathering.specs.Keeping.{Keeps}
use Rattle.larch_flat_sources.specs.Sources.{name_at}
use Rattle.larch_flat.specs.Known.{Grows, Knows}
use Rattle.larch_flat.specs.Parts.{with_reference}
use Rattle.larch_flat.proofs.Targets.{reached}
use Rattle.larch_flat.proofs.flattening.+flatten.Given as goal

-- four calls for each of the files that the file leads to
abbrev pub decreases-see_to : goal.decreases-see_to
decreases-see_to l = 4 * reached l.linked.now.sources.now l.number + 3

abbrev pub decreases-told_of : goal.decreases-told_of
decreases-told_of l = 4 * reached l.linked.now.sources.now l.number + 2

abbrev pub decreases-flat_of : goal.decreases-flat_of
decreases-flat_of l = 4 * reached l.linked.now.sources.now l.number + 1

abbrev pub decreases-take_references : goal.decreases-take_references
decreases-take_references l = 4 * reached l.linked.now.sources.now l.number

-- what is known is so, and what is gathered is kept; with the references that are left it is all
abbrev pub invariant-take_references-loop-reference : goal.invariant-take_references-loop-reference
invariant-take_references-loop-reference l = record {
  knows : Knows l.linked.sources.now l.known;
  grows : Grows l.initial.known l.known;
  left : (g : Gathered) × Keeps l.store g
      × (all_taken (with_reference l.linked.sources.now (name_at l.linked.sources.now l.number))
      (drop l.reference-index l.references) g
      ≡ all_taken (with_reference l.linked.sources.now (name_at l.linked.sources.now l.number)) l.references nothing);
}
