use Rattle.std.proofs.Common.{◌≡◌, ◌+◌, drop}
use Rattle.larch_derive.specs.Predicates.{Extends}
use Rattle.larch_prove_adding.specs.KeptFacts.{AreSaid, facts_of}
use Rattle.larch_prove_opening.specs.FirstFacts.{facts_with_axioms}
use Rattle.larch_prove_opening.specs.Stating.{AreStated}
use Rattle.larch_prove_opening.proofs.opening.add_axioms.Given as goal
use Rattle.larch_prove_adding.specs.RewriteRuleSet.{BelongsTo}
use Rattle.larch_store.specs.Stored.{Grows}

-- what is left to add comes to what the whole adding does, and all that was added is said
abbrev pub invariant-loop-index : goal.invariant-loop-index
invariant-loop-index l = record {
  goes : facts_with_axioms l.frame.precedence.now l.frame.limit 1 l.statements (facts_of l.fn.facts)
      ≡ facts_with_axioms l.frame.precedence.now l.frame.limit (l.index + 1) (drop l.index l.statements)
      (facts_of l.facts);
  stated : AreStated l.builder 1 l.statements;
  said : AreSaid l.builder l.facts;
  kept : BelongsTo l.store l.facts.rules;
  grows : Grows l.fn.store l.store;
  extends : Extends l.fn.builder l.builder;
}
