-- Nothing that is known is so.
use Rattle.std.proofs.Common.{◌≡◌, refl, sym, ◌∙◌, ℕ, zero, suc, length, replicate, get_or, Option, Some, None, Result}
use Rattle.std.proofs.lemmas.List.{length-replicate}
use Rattle.larch_base.specs.declared.fault.Fault.{Fault}
use Rattle.larch_flat_sources.specs.FlatMeaningGathered.{Gathered}
use Rattle.larch_flat_sources.specs.Sources.{Table}
use Rattle.larch_flat.specs.Known.{Knows}

-- what a flat trait has, or what is wrong with it
abbrev Answer : Type 0
Answer = Result Gathered Fault

none_there : (n i : ℕ) → get_or {A = Option Answer} (replicate n None) i None ≡ None
none_there zero i = refl
none_there (suc n) zero = refl
none_there (suc n) (suc i) = none_there n i

never_some : (o : Option Answer) (answer : Answer) → o ≡ None → o ≡ Some answer → ⊥
never_some o answer e h = cc

-- of each file nothing is known
pub nothing_known : (sources : Table) (n : ℕ) → length sources ≡ n → Knows sources (replicate n None)
nothing_known sources n e = record {
  size = length-replicate n None ∙ sym e;
  flat = λ i answer h. absurd (never_some (get_or (replicate n None) i None) answer (none_there n i) h);
}
