use Rattle.std.specs.Prelude.{All, drop, map}
use Rattle.larch_complete_pairs.specs.Said.{IsSaid, rule_in, sides_in}
use Rattle.larch_complete_rounds.specs.Certified.{sides_behind}
use Rattle.larch_complete_rounds.proofs.NewPairs.{Pairing}
use Rattle.larch_complete_rounds.proofs.pairing.push_new_pairs.Given as goal
use Rattle.larch_derive.specs.Predicates.{Extends}

-- the pairs with the rules so far wait, and lines say all that wait
abbrev pub invariant-loop-rule : goal.invariant-loop-rule
invariant-loop-rule l = record {
  pairing : Pairing (map sides_behind l.rules) (rule_in l.new) (map sides_behind (drop l.rule-index l.rules))
      (map sides_in l.fn.waiting.items) (map sides_in l.waiting.items);
  said : All (IsSaid l.builder) l.waiting.items;
  extends : Extends l.fn.builder l.builder;
}
