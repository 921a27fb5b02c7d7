use Rattle.std.proofs.Common.{◌≡◌, drop}
use Rattle.larch_derive.specs.Predicates.{Extends}
use Rattle.larch_prove_adding.specs.KeptFacts.{AreSaid, facts_of}
use Rattle.larch_prove_opening.specs.FirstFacts.{facts_with_lemmas}
use Rattle.larch_prove_opening.specs.Stating.{AreStated, duties_of, what_state}
use Rattle.larch_prove_opening.proofs.opening.add_lemmas.Given as goal
use Rattle.larch_prove_adding.specs.RewriteRuleSet.{BelongsTo}
use Rattle.larch_store.specs.Stored.{Grows}

-- what is left to add comes to what the whole adding does, and all that was added is said
abbrev pub invariant-loop-index : goal.invariant-loop-index
invariant-loop-index l = record {
  goes : facts_with_lemmas l.frame.precedence.now l.frame.limit (duties_of l.lemmas) (facts_of l.fn.facts)
      ≡ facts_with_lemmas l.frame.precedence.now l.frame.limit (duties_of (drop l.index l.lemmas))
      (facts_of l.facts);
  stated : AreStated l.builder l.first (what_state (duties_of l.lemmas));
  said : AreSaid l.builder l.facts;
  kept : BelongsTo l.store l.facts.rules;
  grows : Grows l.fn.store l.store;
  extends : Extends l.fn.builder l.builder;
}
