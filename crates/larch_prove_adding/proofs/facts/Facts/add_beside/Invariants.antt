use Rattle.std.specs.Prelude.{All}
use Rattle.larch_derive.specs.Predicates.{Extends}
use Rattle.larch_prove_adding.specs.Beside.{AreServing, manner_beside}
use Rattle.larch_prove_adding.specs.Equation.{IsSaid, sides_in, waiting_in}
use Rattle.larch_prove_adding.specs.KeptFacts.{AreSaid, facts_of}
use Rattle.larch_prove_adding.specs.Turns.{HasRoom, course_of}
use Rattle.larch_prove_adding.proofs.Turning.{Goes}
use Rattle.larch_prove_adding.proofs.facts.Facts.add_beside.Given as goal
use Rattle.larch_prove_invariant.specs.ProveMeaningTaking.{enough}
use Rattle.larch_rewrite.specs.RuleSet.{BelongsTo}
use Rattle.larch_store.specs.Stored.{Grows}

-- what waits comes to what the whole adding does; all that was made is said, and serves
abbrev pub invariant-loop-equation : goal.invariant-loop-equation
invariant-loop-equation l = record {
  goes : Goes (manner_beside l.fn.instance.fact l.manner.precedence.now l.manner.name)
      (sides_in l.fn.instance.equation) (facts_of l.fn.self) l.manner.budget
      (course_of l.adding.made l.adding.waiting.items l.self) l.adding.left;
  serving : AreServing l.fn.instance.fact (facts_of l.self) (facts_of l.serving);
  said : AreSaid l.builder l.self;
  serving_said : AreSaid l.builder l.serving;
  kept : BelongsTo l.store l.self.rules;
  serving_kept : BelongsTo l.store l.serving.rules;
  waiting : All (IsSaid l.builder) l.adding.waiting.items;
  room : HasRoom l.adding.made l.serving;
  grows : Grows l.fn.store l.store;
  extends : Extends l.fn.builder l.builder;
}

-- each equation that is taken leaves less
abbrev pub decreases-loop-equation : goal.decreases-loop-equation
decreases-loop-equation l = enough (waiting_in l.adding.waiting.items) l.adding.left
