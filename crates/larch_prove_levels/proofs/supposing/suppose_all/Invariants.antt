use Rattle.std.proofs.Common.{◌≡◌, ◌++◌, All, Ok, map}
use Rattle.larch_prove_boxes.specs.DerivePredicates.{Extends}
use Rattle.larch_prove_adding.specs.Equation.{IsSaid, sides_in}
use Rattle.larch_prove_adding.specs.KeptFacts.{AreSaid, facts_of}
use Rattle.larch_prove_levels.specs.Supposing.{with_hypotheses}
use Rattle.larch_prove_adding.specs.RewriteRuleSet.{BelongsTo}
use Rattle.larch_store.specs.Stored.{Grows}
use Rattle.larch_prove_levels.proofs.supposing.suppose_all.Given as goal

-- those so far are supposed, and the others are said still
abbrev pub invariant-loop-equation : goal.invariant-loop-equation
invariant-loop-equation l = record {
  supposed : with_hypotheses l.around.precedence.now l.around.limit (map sides_in l.yielded)
      (record { facts = facts_of l.initial.facts; next = l.initial.next })
      ≡ Ok (record { facts = facts_of l.facts; next = l.next });
  order : l.fn.equations.items ≡ l.yielded ++ l.equation-iterator.rest.items;
  kept : BelongsTo l.store l.facts.rules;
  said : AreSaid l.builder l.facts;
  waiting : All (IsSaid l.builder) l.equation-iterator.rest.items;
  grows : Grows l.initial.store l.store;
  extends : Extends l.initial.builder l.builder;
}
