use Rattle.std.proofs.Common.{◌≡◌, drop}
use Rattle.std.specs.Prelude.{fold}
use Rattle.larch_flat_sources.specs.FlatMeaningGathered.{Gathered, with_taken}
use Rattle.larch_flat_gathering.specs.Keeping.{Keeps}
use Rattle.larch_flat.proofs.taking.take_all.Given as goal

-- what is gathered is kept, and with the statements that are left it is all
abbrev pub invariant-loop-index : goal.invariant-loop-index
invariant-loop-index l =
    (g : Gathered) → Keeps l.initial.store g
    → (h : Gathered) × Keeps l.store h
    × (fold (λ k m. with_taken l.assumes m k) h (drop l.index l.marked)
    ≡ fold (λ k m. with_taken l.assumes m k) g l.marked)
