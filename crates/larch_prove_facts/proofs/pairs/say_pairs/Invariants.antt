use Rattle.std.proofs.Common.{◌≡◌, All, map, take}
use Rattle.larch_complete_pairs.specs.CompleteMeaningPairs.{as_equation}
use Rattle.larch_derive.specs.Predicates.{Extends}
use Rattle.larch_prove_work.specs.ProveAddingEquation.{IsSaid, sides_in}
use Rattle.larch_prove_facts.proofs.pairs.say_pairs.Given as goal

-- the equations of the pairs so far, which lines say
abbrev pub invariant-loop-pair : goal.invariant-loop-pair
invariant-loop-pair l = record {
  pairs : map sides_in l.equations.items ≡ map as_equation (take l.pair-index l.pairs);
  said : All (IsSaid l.builder) l.equations.items;
  extends : Extends l.fn.builder l.builder;
}
