use Rattle.larch_base_meaning.specs.Steps.{all_taken}
use Rattle.larch_flat_statements.specs.FlatMeaningFlat.{take_shorthand}
use Rattle.larch_flat_statements.specs.FlatMeaningGathered.{Gathered}
use Rattle.larch_flat_gathering.specs.Keeping.{Keeps}
use Rattle.larch_flat_gathering.proofs.Leaving.{Goes}
use Rattle.larch_flat_gathering.proofs.store.Gathering.take_shorthands.Given as goal

-- the shorthands so far were taken
abbrev pub invariant-loop-shorthand : goal.invariant-loop-shorthand
invariant-loop-shorthand l =
    (g : Gathered) → Keeps l.initial.self g
    → Goes l.shorthands l.shorthand-index l.self (all_taken take_shorthand l.shorthands g)
