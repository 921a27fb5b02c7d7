use Rattle.larch_flat_statements.specs.FlatMeaningGathered.{Gathered, with_asserted}
use Rattle.larch_flat_gathering.specs.Keeping.{Keeps}
use Rattle.larch_flat_gathering.proofs.store.Gathering.assert_all.Given as goal

-- the statements so far are asserted
abbrev pub invariant-loop-statement : goal.invariant-loop-statement
invariant-loop-statement l = (g : Gathered) → Keeps l.initial.self g → Keeps l.self (with_asserted l.yielded g)
