-- What is told of answers that are surely told.
use Rattle.std.proofs.Common.{◌≡◌, ap, Option, Some, None, Result, Ok, Err}
use Rattle.std.specs.Prelude.{IfSome, option_map}
use Rattle.larch_base.specs.Answering.{Answers}
use Rattle.larch_base.specs.declared.fault.Fault.{Fault}
use Rattle.larch_flat_sources.specs.TraitsItemsRefusal.{cause}
use Rattle.larch_flat_sources.specs.TraitsItemsRefusalTraitRefusal.{TraitRefusal}
use Rattle.larch_flat_sources.specs.FlatMeaningStops.{Stop, Refused, surely}

pub refused_surely : {A : Type 0} (o : Option Fault) (a : Result A Fault) → IfSome o (λ f. a ≡ Err f)
    → IfSome (option_map Refused o) (λ s. surely a ≡ Err s)
refused_surely None a h = tt
refused_surely (Some f) a h = ap surely h

-- what a call answers, by an answer that is surely told
pub answers_surely : {A : Type 0} (result : Result A TraitRefusal) (a : Result A Fault) → Answers cause result a
    → Answers (λ r. option_map Refused (cause r)) result (surely a)
answers_surely (Ok x) a e = ap surely e
answers_surely (Err r) a h = refused_surely (cause r) a h
