use Rattle.larch_models_meaning.specs.Computed.{made_in}
use Rattle.larch_models_meaning.specs.FiniteModel.{interpretation_of, last_in}
use Rattle.larch_models.proofs.Generations.{Agrees}
use Rattle.larch_models.proofs.generated.holds_generated.Given as goal

abbrev pub invariant-loop-step : goal.invariant-loop-step
invariant-loop-step l =
    Agrees (last_in l.model l.sort) l.made.items (made_in (interpretation_of l.model) l.sort l.operators l.step)
